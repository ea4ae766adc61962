-- `From<Kind> for u32`: a kind's place in the order, from 1, is its number.
use Rattle.ast.proofs.KindNumbers.{number-is}
use Rattle.ast.proofs.row.U32FromKind.from.Goals as goal

pub returns : goal.returns
returns c = number-is c.args.kind
