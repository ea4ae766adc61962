-- `put_first`: five stores are one.
use Rattle.rules.specs.Area.{flag}
use Rattle.statement.proofs.first.put_first.Goals as goal

pub returns : goal.returns
unfolding flag
returns c = rw (c.from.ensures, c.name_or-name.ensures, c.from-2.ensures)
