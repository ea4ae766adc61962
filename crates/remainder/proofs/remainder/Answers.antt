-- `remainder::remainder` meets its contract.
use Rattle.std.proofs.Common.{sym, ap, ◌∙◌}
use lib.Ieee.{rem, binary64}
use Rattle.std.specs.Float.{float_with_sign, is_sign_negative}
use Rattle.remainder.proofs.Signs.{not_finite, by_nan, by_zero, by_infinite, size_of, some_of, signed}
use Rattle.remainder.proofs.remainder.Goals as goal

pub returns-then-not-is_finite : goal.returns-then-not-is_finite
returns-then-not-is_finite c = not_finite c.args.x c.args.y (sym c.if-not-is_finite.ensures.value)

pub returns-then-is_nan : goal.returns-then-is_nan
returns-then-is_nan c = by_nan c.args.x c.args.y (sym c.if-is_nan.ensures.value)

pub returns-then-y : goal.returns-then-y
returns-then-y c = by_zero c.args.x c.args.y c.if-y.true

pub returns-then-not-is_finite-2 : goal.returns-then-not-is_finite-2
returns-then-not-is_finite-2 c = by_infinite c.args.x c.args.y (sym c.if-not-is_finite.ensures.value) (sym c.if-is_nan.ensures.value) (sym c.if-not-is_finite-2.ensures.value)

pub of_sizes-requires-clause-number : goal.of_sizes-requires-clause-number
of_sizes-requires-clause-number c = size_of c.args.x c.abs.result (sym c.if-not-is_finite.ensures.value) c.abs.ensures.value

pub of_sizes-requires-clause-divisor : goal.of_sizes-requires-clause-divisor
of_sizes-requires-clause-divisor c = size_of c.args.y c.abs-2.result (sym c.if-not-is_finite-2.ensures.value) c.abs-2.ensures.value

pub of_sizes-requires-clause-some : goal.of_sizes-requires-clause-some
of_sizes-requires-clause-some c = some_of c.args.y c.abs-2.result (sym c.if-not-is_finite-2.ensures.value) c.if-y.false c.abs-2.type_inv c.abs-2.ensures.value

pub returns : goal.returns
returns c =
    c.copysign.ensures
    ∙ ap (float_with_sign (is_sign_negative c.args.x)) (c.of_sizes.ensures ∙ (λ i. rem binary64 (c.abs.ensures.value i) (c.abs-2.ensures.value i)))
    ∙ signed c.args.x c.args.y (sym c.if-not-is_finite.ensures.value) (sym c.if-not-is_finite-2.ensures.value)
