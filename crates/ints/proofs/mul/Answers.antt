-- `ints::mul` meets its contract.
use lib.IntN.{◌*ℤ◌}
use Rattle.ints.proofs.Operations.{of-two}
use Rattle.ints.proofs.mul.Goals as goal

pub returns : goal.returns
returns c = of-two c.args.x c.ranges.x _ c.ok_or.ensures.value c.args.y c.ranges.y (λ x y. x *ℤ y) c.checked_mul.ensures
