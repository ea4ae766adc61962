-- `ints::bits::to_bits` meets its contract.
use Rattle.std.proofs.Common.{◌∙◌, ap}
use Rattle.rules.specs.Area.{bits}
use Rattle.ints.proofs.Signed.{read, bits-of}
use Rattle.ints.proofs.bits.to_bits.Goals as goal

pub returns : goal.returns
returns c = c.cast_unsigned.ensures ∙ bits-of _ ∙ ap bits (read c.args.x c.ranges.x)
