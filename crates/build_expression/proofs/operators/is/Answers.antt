-- `operators::is`: refused, or one cell.
use mathlib.Core.Path.{refl, ◌∙◌}
use Rattle.build_expression.specs.Steps.{is-emits, is-stops}
use Rattle.build_expression.proofs.Literals.{is-literal, is-cell}
use Rattle.build_expression.proofs.operators.is.Goals as goal

pub returns-then-not-is_null_or_nan : goal.returns-then-not-is_null_or_nan
returns-then-not-is_null_or_nan c = λ t q. rw c.at.ensures (is-stops _ _ _ _ _ _ (is-literal t q _ _ c.literal-literal.ensures (c.is_null_or_nan.ensures t q)
    ∙ c.if-not-is_null_or_nan.true) c.line.ensures refl)

pub returns : goal.returns
returns c = λ t q. is-emits _ _ _ _ _ (is-literal t q _ _ c.literal-literal.ensures (c.is_null_or_nan.ensures t q)
    ∙ c.if-not-is_null_or_nan.false) (is-cell t q _ _ c.literal-literal.ensures (c.is.ensures t q))
