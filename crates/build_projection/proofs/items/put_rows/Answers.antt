-- `items::put_rows`: starred columns, stored one after the other.
use native.Mathlib.Omega.{arith}
use Rattle.std.proofs.Common.{refl}
use Rattle.build_projection.specs.Steps.{filling-more, filling-end}
use Rattle.build_projection.proofs.Filled.{filled-all, starred-length}
use Rattle.build_projection.proofs.items.put_rows.Goals as goal

pub loop-i-preserved : goal.loop-i-preserved
loop-i-preserved c = filling-more c.loop-i.invariant refl (omega arith) c.loop-i-test.true

pub returns : goal.returns
returns c = filled-all _ _ _ (filling-end c.loop-i.invariant c.loop-i-test.false) (starred-length _ _)
