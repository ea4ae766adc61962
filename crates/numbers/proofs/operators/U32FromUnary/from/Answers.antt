-- `From<Unary> for u32`.
use Rattle.numbers.proofs.OperatorCodes.{unary-place}
use Rattle.numbers.proofs.operators.U32FromUnary.from.Goals as goal

pub returns : goal.returns
returns c = unary-place c.args.operator
