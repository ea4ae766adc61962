-- `find_table`: the table is found or not.
use Rattle.schema.specs.Search.{position-of}
use Rattle.schema.proofs.find_table.Goals as goal

pub returns : goal.returns
returns c = rw (c.ok_or.ensures.value, c.at.ensures) (position-of _ c.get_table.ensures)
