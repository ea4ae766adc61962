-- `value::arithmetic::neg` meets its contract.
use Rattle.std.proofs.Common.{rules, ◌≡◌, Ok, ap, ◌∙◌}
use lib.Ieee as Ieee
use Rattle.value.specs.Operands.{floated}
use Rattle.value.proofs.Numbers.{by-neg}
use Rattle.value.proofs.arithmetic.neg.Goals as goal

pub returns : goal.returns
unfolding floated
returns c = λ t q. c.on_number.ensures _ _ t q (λ x j r p. p) (λ x r p. let e : r ≡ Ok (Ieee.neg x) = search rules in ap floated e) ∙ by-neg _
