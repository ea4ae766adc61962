-- `unary`: the kind, the operator's code, and its operands.
use Rattle.numbers.specs.Operators.{unary_operator}
use Rattle.ast.specs.Row.{number_of}
use Rattle.read_expression.specs.Operators.{row-of-plain, unary-plainly}
use Rattle.read_expression.proofs.heads.unary.Goals as goal

pub returns : goal.returns
unfolding number_of
returns c = λ t. row-of-plain t _ _ _ _ _ (unary-plainly (unary_operator c.args.operator)) (rw c.from.ensures at c.plain_row.ensures)
