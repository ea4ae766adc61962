-- `value::bits::to_bits` meets its contract.
use Rattle.std.proofs.Common.{sym, ap, ◌∙◌}
use lib.Ieee.{to_bits, binary64}
use Rattle.value.proofs.Floats.{only_nan}
use Rattle.value.proofs.bits.to_bits.Goals as goal

pub returns-then-is_nan : goal.returns-then-is_nan
unfolding to_bits
returns-then-is_nan c = ap (to_bits binary64) (only_nan c.args.x (sym c.is_nan.ensures.value ∙ c.if-is_nan.true))
