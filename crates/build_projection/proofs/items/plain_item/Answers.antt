-- `items::plain_item`: an entry, or a starred column's row.
use Rattle.build_projection.specs.Items.{plain-before, plain-behind}
use Rattle.build_projection.proofs.items.plain_item.Goals as goal

pub returns-in-Entry : goal.returns-in-Entry
returns-in-Entry c = plain-before _ _ _ _ c.in-Entry.is c.plain_entry.ensures

pub returns-in-Starred : goal.returns-in-Starred
returns-in-Starred c = plain-behind _ _ _ _ c.in-Starred.is c.star_at.ensures
