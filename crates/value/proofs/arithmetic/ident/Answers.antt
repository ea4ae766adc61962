-- `value::arithmetic::ident` meets its contract.
use Rattle.std.proofs.Common.{ap, ◌∙◌}
use Rattle.ints.specs.Checked.{checked}
use Rattle.value.specs.Operands.{floated}
use Rattle.value.proofs.Numbers.{by-ident}
use Rattle.value.proofs.arithmetic.ident.Goals as goal

pub returns : goal.returns
unfolding floated checked
returns c = λ t q. c.on_number.ensures _ _ t q (λ x j r p. ap checked p) (λ x r p. ap floated p) ∙ by-ident _
