-- `leaves::literal`: one cell.
use Rattle.build_expression.specs.Steps.{literal-emits}
use Rattle.build_expression.proofs.Literals.{constant_cell}
use Rattle.build_expression.proofs.leaves.literal.Goals as goal

pub returns : goal.returns
returns c = literal-emits _ _ _ _ (constant_cell _ _ _ _ c.literal-literal.ensures c.constant.ensures)
