-- `value::comparison::le` meets its contract.
use Rattle.std.proofs.Common.{rules, ◌||◌, ap, ◌∙◌}
use Rattle.rules.specs.Comparison.{compared, is_less, is_same, is_greater}
use Rattle.rules.specs.Operators.{binary_of, plain_of}
use Rattle.value.proofs.Orders.{by-orders}
use Rattle.value.proofs.comparison.le.Goals as goal

pub returns : goal.returns
unfolding binary_of plain_of is_less is_same is_greater
returns c = c.holds.ensures (λ o. is_less o || is_same o) _ _ (by-orders _ (λ o. is_less o || is_same o) (λ b p. search rules) (λ b p. search rules) (λ b p. search rules) (λ b p. search rules))
    ∙ ap (compared (λ o. is_less o || is_same o)) c.compare.ensures
