-- `hidden::put_columns`: the columns put so far.
use mathlib.Core.Path.{refl}
use mathlib.Core.Option.{none}
use Rattle.build_project.specs.Hidden.{putting-begin, putting-more, no-alias}
use Rattle.build_project.proofs.hidden.put_columns.Goals as goal

pub loop-i-init : goal.loop-i-init
loop-i-init c = putting-begin _ _ _ _ c.requires.room c.requires.nodes_room

pub loop-i-preserved : goal.loop-i-preserved
loop-i-preserved c = putting-more c.loop-i.invariant c.loop-i-test.true refl c.column.ensures (c.item.ensures none no-alias)
