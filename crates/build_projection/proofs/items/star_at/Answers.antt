-- `items::star_at`: a row is a star by its kind.
use Rattle.build_projection.specs.Items.{star-is, star-not}
use Rattle.build_projection.proofs.items.star_at.Goals as goal

pub returns-in-Star : goal.returns-in-Star
returns-in-Star c = star-is _ _ _ c.kind_of.ensures _ c.line.ensures c.in-Star.is

pub returns-in_default : goal.returns-in_default
returns-in_default c = star-not _ _ _ c.kind_of.ensures c.in_default.not-Star
