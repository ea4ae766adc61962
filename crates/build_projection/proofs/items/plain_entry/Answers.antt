-- `items::plain_entry`: an entry with an alias is none, else the star at its row.
use Rattle.build_projection.specs.Items.{plain-aliased, plain-free}
use Rattle.build_projection.proofs.items.plain_entry.Goals as goal

pub returns-in-Some : goal.returns-in-Some
returns-in-Some c = plain-aliased _ _ _ _ c.entry_at-e.ensures c.in-Some.is

pub returns-in-None : goal.returns-in-None
returns-in-None c = plain-free _ _ _ _ c.entry_at-e.ensures _ _ c.expr_row.ensures c.star_at.ensures c.in-None.is
