use Rattle.std.proofs.Common.{◌≡◌, true, ◌≤◌, ◌-◌}
use lib.Ieee.{fits, binary64}
use Rattle.remainder.specs.Steps.{steps, IsSize, IsDoubled}
use Rattle.remainder.proofs.largest_doubled.Given as goal

abbrev pub invariant-loop-t : goal.invariant-loop-t
invariant-loop-t l = IsSize l.t × IsDoubled (steps l.y) (steps l.t) × (steps l.t ≤ steps l.x) × (fits binary64 l.t ≡ true)

abbrev pub decreases-loop-t : goal.decreases-loop-t
decreases-loop-t l = steps l.x - steps l.t
