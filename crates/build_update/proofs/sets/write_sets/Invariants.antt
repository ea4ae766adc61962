-- `sets::write_sets`: the sets so far.
use Prim.Native.Nat.{ℕ}
use Rattle.schema.specs.Layout.{table_at}
use Rattle.build_expression.specs.Builds.{scope_at}
use Rattle.build_update.specs.SoFar.{sets_at, SoFar}
use Rattle.build_update.proofs.sets.write_sets.Given as goal

abbrev pub invariant-loop-v : goal.invariant-loop-v
invariant-loop-v l =
    (h : ℕ) → SoFar (scope_at l.exprs.texts.catalog.now l.exprs.texts.statement.now l.exprs.table.now l.scope.labels.now l.scope.matches.now l.scope.tables.now h)
    (table_at l.exprs.texts.catalog.now l.exprs.texts.statement.now l.tables l.i).columns (sets_at l.exprs.texts.catalog.now l.exprs.texts.statement.now l.exprs.table.now l.parts) l.cell l.initial.area l.initial.nodes l.v l.written l.area l.nodes
