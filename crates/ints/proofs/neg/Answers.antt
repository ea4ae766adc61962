-- `ints::neg` meets its contract.
use lib.IntN.{neg_ℤ}
use Rattle.ints.proofs.Operations.{of-one}
use Rattle.ints.proofs.neg.Goals as goal

pub returns : goal.returns
returns c = of-one c.args.x c.ranges.x _ c.ok_or.ensures.value neg_ℤ c.checked_neg.ensures
