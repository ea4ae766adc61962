-- `value::arithmetic::pow` meets its contract.
use Rattle.std.proofs.Common.{rules, ◌≡◌, Err, ap}
use Rattle.numbers.specs.Reasons.{reason_of}
use Rattle.numbers.specs.declared.refusals.Reason.TheVariants as Re
use Rattle.rules.specs.Arithmetic.{power_of}
use Rattle.rules.specs.Operators.{plain_of}
use Rattle.value.specs.Operands.{floated}
use Rattle.value.proofs.arithmetic.pow.Goals as goal

pub returns : goal.returns
unfolding plain_of power_of floated reason_of
returns c = λ t q. c.on_numbers.ensures _ _ t q (λ x y j k r p. p) (λ x y r p. let e : r ≡ Err Re.NotWorkedOut = search rules in ap floated e)
