-- `cells::not_equal` meets its contract.
use mathlib.Core.Path.{refl}
use Rattle.rules.specs.Ast.{eq}
use Rattle.numbers.specs.Operators.{unary_operator, binary_operator}
use Rattle.plan.specs.Cells.{puts-two}
use Rattle.plan.proofs.cells.not_equal.Goals as goal

pub returns : goal.returns
unfolding unary_operator binary_operator
returns c = record { value = refl; puts = puts-two (c.plain.ensures eq refl) c.unary.ensures }
