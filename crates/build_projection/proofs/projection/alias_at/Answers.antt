-- `projection::alias_at`: the place of an entry's name; a starred column has none.
use Rattle.build_projection.specs.Aliases.{place-entry, place-starred}
use Rattle.build_projection.proofs.projection.alias_at.Goals as goal

pub returns-in-Entry : goal.returns-in-Entry
returns-in-Entry c = place-entry _ c.in-Entry.is _ c.entry_at-e.ensures _ _ c.clipped_option.ensures

pub returns-in-Starred : goal.returns-in-Starred
returns-in-Starred c = place-starred _ _ _ c.in-Starred.is
