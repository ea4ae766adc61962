-- `last_qualified`: from the end, the first that has both names.
use mathlib.Core.Path.{◌≡◌}
use Rattle.rules.specs.Lines.{Word}
use Rattle.rules.specs.Scope.{is_qualified}
use Rattle.scope.specs.Labels.{label_at}
use Rattle.scope.specs.Search.{NoneBehind}
use Rattle.scope.proofs.view.View.last_qualified.Given as goal

abbrev pub invariant-loop-i : goal.invariant-loop-i
invariant-loop-i l = (v w : Word) → v.bytes ≡ l.table → w.bytes ≡ l.name
    → NoneBehind (is_qualified v w) (label_at l.texts.catalog.now l.texts.statement.now l.self.tables.now) l.self.labels.now l.i
