-- `projection::item_row`: an entry's first row, or the row of a starred column.
use Rattle.build_projection.specs.Aliases.{row-entry, row-starred}
use Rattle.build_projection.proofs.projection.item_row.Goals as goal

pub returns-in-Entry : goal.returns-in-Entry
returns-in-Entry c = row-entry _ c.in-Entry.is _ c.entry_at-e.ensures _ c.expr_row.ensures

pub returns-in-Starred : goal.returns-in-Starred
returns-in-Starred c = row-starred _ c.in-Starred.is
