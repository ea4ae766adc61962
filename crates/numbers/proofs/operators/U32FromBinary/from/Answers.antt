-- `From<Binary> for u32`.
use Rattle.numbers.proofs.OperatorCodes.{binary-place}
use Rattle.numbers.proofs.operators.U32FromBinary.from.Goals as goal

pub returns : goal.returns
returns c = binary-place c.args.operator
