-- `lookup::only_named`: the columns so far that have the name are none or the one at hand.
use Prim.Native.Nat.{ℕ}
use mathlib.Core.Path.{◌≡◌}
use mathlib.Core.List.{List}
use Rattle.rules.specs.Lines.{Word}
use Rattle.rules.specs.Scope.{the_only, is_named}
use Rattle.scope.specs.Labels.{label_at}
use Rattle.scope.specs.Search.{Seeking}
use Rattle.scope.proofs.view.View.only_named.Given as goal

abbrev pub invariant-loop-i : goal.invariant-loop-i
invariant-loop-i l = (ts : List ℕ) (w : Word) → w.bytes ≡ l.name
    → Seeking the_only (is_named w) (label_at l.texts.catalog.now l.texts.statement.now ts) l.self.labels.now l.i l.hit
