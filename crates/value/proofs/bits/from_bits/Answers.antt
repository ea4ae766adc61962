-- `value::bits::from_bits` meets its contract.
use Rattle.std.proofs.Common.{Bool, not, T, sym, refl, ◌∙◌, subst}
use lib.Ieee.Bits.{nan_bits_above}
use lib.Ieee.{binary64, of_bits}
use Rattle.rules.specs.Arithmetic.{float_of}
use Rattle.rules.specs.BuildExpression.{is_null_or_nan}
use Rattle.value.proofs.Floats.{nan-bits, only_nan}
use Rattle.value.proofs.bits.from_bits.Goals as goal

pub returns-then-is_nan : goal.returns-then-is_nan
unfolding of_bits
returns-then-is_nan c = let start = c in only_nan (float_of start.args.n)
    (sym (nan-bits start.args.n) ∙ sym c.is_nan.ensures ∙ c.if-is_nan.true)

pub float_from_bits-result : goal.float_from_bits-result
unfolding is_null_or_nan
float_from_bits-result c = subst (λ (t : Bool). T (not t)) (sym (nan_bits_above binary64 c.args.n ∙ sym
    c.is_nan.ensures ∙ c.if-is_nan.false)) tt

pub returns : goal.returns
unfolding float_of
returns c = refl
