-- `first::keyword`: the table is the rules'.
use Rattle.rules.specs.Lines.{bytes}
use Rattle.rules.specs.ReadStatement.{statement_heads}
use Rattle.text.specs.Beside.{beside-named}
use Rattle.statement.specs.FirstRecord.{said_by}
use Rattle.statement.proofs.first.keyword.Goals as goal

pub returns : goal.returns
unfolding statement_heads said_by bytes
returns c = rw c.beside.ensures (beside-named said_by _ _)
