-- `expression::constants::check_is` meets its contract.
use mathlib.Core.Path.{◌∙◌}
use Rattle.numbers.specs.declared.refusals.Reason.TheVariants.{InvalidIs}
use Rattle.numbers.specs.Reasons.{reason_of}
use Rattle.expression.proofs.Checks.{guard_passed, guard-refused, is-literal}
use Rattle.expression.proofs.constants.check_is.Goals as goal

pub returns-then-is_null_or_nan : goal.returns-then-is_null_or_nan
returns-then-is_null_or_nan c = λ t q. guard_passed _ _ _ (is-literal t q _ _ (c.is_null_or_nan.ensures t q) c.literal.ensures
    ∙ c.if-is_null_or_nan.true)

pub returns : goal.returns
unfolding reason_of
returns c = λ t q. rw c.at.ensures (guard-refused _ InvalidIs _ _ (is-literal t q _ _ (c.is_null_or_nan.ensures t q) c.literal.ensures
    ∙ c.if-is_null_or_nan.false) c.line.ensures)
