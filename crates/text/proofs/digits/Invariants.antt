-- `digits`: the digits from here on, behind the number so far, give what all give.
use Prim.Native.Nat.{◌≤◌, min}
use mathlib.Core.Path.{◌≡◌}
use lib.ListN.{drop}
use Rattle.rules.specs.Lists.{map_option}
use Rattle.rules.specs.Lines as rules
use Rattle.text.proofs.digits.Given as goal

abbrev pub invariant-loop-b : goal.invariant-loop-b
invariant-loop-b l = (l.v ≤ l.most) × (map_option (min l.most) (rules.digits l.v (drop l.b-index l.x)) ≡ map_option (min l.most) (rules.digits 0 l.x))
