-- `roots::sides`: the rows from the left side's first one on.
use Rattle.from.specs.Rows.{sides-room, sides-is}
use Rattle.from.proofs.roots.sides.Goals as goal

pub overflow_sub-result : goal.overflow_sub-result
overflow_sub-result c = sides-room _ _ _ _ c.left-l.ensures c.first-f.ensures

pub returns : goal.returns
returns c = sides-is _ _ _ _ c.left-l.ensures c.first-f.ensures
