use Rattle.std.proofs.Common.{◌≡◌, true, ◌%◌}
use lib.Ieee.{fits, binary64}
use Rattle.remainder.specs.Steps.{steps, IsSize, IsDoubled}
use Rattle.remainder.proofs.of_sizes.Given as goal

abbrev pub invariant-loop-t : goal.invariant-loop-t
invariant-loop-t l = IsSize l.t × IsDoubled (steps l.y) (steps l.t) × IsSize l.r × (steps l.r ≡ steps l.x % steps l.t) × (fits binary64 l.t ≡ true) × (fits binary64 l.r ≡ true)

abbrev pub decreases-loop-t : goal.decreases-loop-t
decreases-loop-t l = steps l.t
