-- `expression::planned::to_natural` meets its contract.
use Rattle.std.proofs.Common.{sym, ap, ◌∙◌}
use Rattle.rules.specs.BuildSelect.{natural}
use Rattle.expression.specs.Answers.{constant_value}
use Rattle.expression.specs.declared.Constant.{Constant}
use Rattle.expression.proofs.ValueNumbers.{natural-held}
use Rattle.expression.proofs.planned.to_natural.Goals as goal

pub returns-in-Literal : goal.returns-in-Literal
unfolding constant_value
returns-in-Literal c = λ r l t q. c.value_natural.ensures r l t q ∙ ap (natural r l) (c.literal.ensures t q) ∙ natural-held r l _
    ∙ ap (λ (x : Constant). natural r l (constant_value t q x)) (sym c.in-Literal.is)
