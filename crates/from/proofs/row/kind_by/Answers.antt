-- `row::kind_by`: by the number.
use Rattle.std.proofs.Common.{arith}
use Rattle.from.specs.Access.{kind-rest}
use Rattle.from.proofs.row.kind_by.Goals as goal

pub returns-in_default : goal.returns-in_default
returns-in_default c = kind-rest _ (omega arith) (omega arith) (omega arith) (omega arith)
