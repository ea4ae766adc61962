-- `value::arithmetic::sqrt` meets its contract.
use Rattle.std.proofs.Common.{rules, ◌≡◌, Err, ap, ◌∙◌}
use Rattle.numbers.specs.Reasons.{reason_of}
use Rattle.numbers.specs.declared.refusals.Reason.TheVariants as Re
use Rattle.value.specs.Operands.{floated}
use Rattle.value.proofs.Numbers.{by-sqrt}
use Rattle.value.proofs.arithmetic.sqrt.Goals as goal

pub returns : goal.returns
unfolding floated reason_of
returns c = λ t q. c.on_number.ensures _ _ t q (λ x j r p. p) (λ x r p. let e : r ≡ Err Re.NotWorkedOut = search rules in ap floated e) ∙ by-sqrt _
