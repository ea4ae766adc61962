-- `operators::binary`: the cells of the operator.
use Rattle.build_expression.specs.Steps.{binary-emits}
use Rattle.build_expression.proofs.operators.binary.Goals as goal

pub returns : goal.returns
returns c = rw (← c.binary_operator-operator.ensures) (binary-emits _ _ _ _ _ _ c.operator.ensures)
