-- `Scope::project_items`: each item so far has its match where no item before is equal.
use mathlib.Core.Path.{◌≡◌}
use Rattle.ast.specs.Table.{tree_at}
use Rattle.scope.specs.NewMatch.{Storing}
use Rattle.scope.proofs.Scope.project_items.Given as goal

abbrev pub invariant-loop-j : goal.invariant-loop-j
invariant-loop-j l = (l.self.labels ≡ l.initial.self.labels) × (l.self.tables ≡ l.initial.self.tables)
    × (l.self.count ≡ l.initial.self.count) × Storing (tree_at l.exprs.texts.catalog.now l.exprs.texts.statement.now l.exprs.table.now) l.rows l.j l.self.matches
