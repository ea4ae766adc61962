-- `ints::bits::from_bits` meets its contract.
use Rattle.std.proofs.Common.{◌∙◌, ap, sym, arith, w64}
use Rattle.std.proofs.lemmas.Int.{of_z-to_z}
use Rattle.rules.specs.Area.{bits}
use Rattle.ints.proofs.Signed.{read-mag, bits-of}
use Rattle.ints.proofs.bits.from_bits.Goals as goal

pub returns : goal.returns
returns c = ap bits (read-mag _ c.cast_signed.type_inv ∙ c.cast_signed.ensures) ∙ sym (bits-of _) ∙ of_z-to_z w64 c.args.n (omega arith)
