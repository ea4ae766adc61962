-- `Scope::merge`: the other scope's labels so far stand behind the own ones.
use mathlib.Core.Path.{◌≡◌}
use Rattle.rules.specs.Limits.{most_columns}
use Rattle.scope.specs.Slots.{shifted}
use Rattle.scope.specs.Scopes.{labels_of}
use Rattle.scope.specs.Merge.{Appending}
use Rattle.scope.proofs.Scope.merge.Given as goal

abbrev pub invariant-loop-j : goal.invariant-loop-j
invariant-loop-j l = (l.self.matches ≡ l.initial.self.matches)
    × (l.self.tables ≡ l.initial.self.tables) × (l.self.width ≡ l.initial.self.width) × (l.self.count ≡ l.initial.self.count)
    × (l.self.hidden ≡ l.initial.self.hidden)
    × Appending (shifted l.initial.self.count) most_columns l.initial.self.labels l.w (labels_of l.fn.other) l.j l.self.labels
