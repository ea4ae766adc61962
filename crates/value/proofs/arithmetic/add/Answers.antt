-- `value::arithmetic::add` meets its contract.
use Rattle.std.proofs.Common.{rules, ◌≡◌, Ok, ap}
use lib.Ieee as Ieee
use lib.Ieee.{binary64}
use Rattle.rules.specs.Arithmetic.{sum_of}
use Rattle.rules.specs.Operators.{plain_of}
use Rattle.value.specs.Operands.{floated}
use Rattle.value.proofs.arithmetic.add.Goals as goal

pub returns : goal.returns
unfolding plain_of sum_of floated
returns c = λ t q. c.on_numbers.ensures _ _ t q (λ x y j k r p. p) (λ x y r p. let e : r ≡ Ok (Ieee.add binary64 x y) = search rules in ap floated e)
