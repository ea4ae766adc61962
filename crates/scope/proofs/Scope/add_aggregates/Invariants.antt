-- `Scope::add_aggregates`: each row so far has its label and its match; those are the child scope.
use mathlib.Core.List.{[], map}
use Rattle.scope.specs.Copies.{Copying}
use Rattle.scope.specs.NewMatch.{match_number}
use Rattle.scope.specs.AddAggregates.{passed_label}
use Rattle.scope.proofs.Scope.add_aggregates.Given as goal

abbrev pub invariant-loop-j : goal.invariant-loop-j
invariant-loop-j l = Copying [] 0 (map (passed_label l.exprs.texts.catalog.now l.exprs.texts.statement.now l.exprs.table.now l.fn.self) l.rows) l.j l.labels
    × Copying [] 0 (map match_number l.rows) l.j l.matches
