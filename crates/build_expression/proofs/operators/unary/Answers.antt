-- `operators::unary`: one cell.
use Rattle.build_expression.specs.Steps.{unary-emits}
use Rattle.build_expression.proofs.operators.unary.Goals as goal

pub returns : goal.returns
returns c = unary-emits _ _ _ _ c.unary.ensures
