-- `list`: the lines of the area, from the window's first byte on.
use borrow.Author.Rules.{rules}
use mathlib.Core.Path.{refl}
use Rattle.listing.specs.Own.{show_area}
use Rattle.listing.specs.Listed.{held}
use Rattle.listing.proofs.list.Goals as goal

pub returns : goal.returns
unfolding show_area
returns c = held _ (search rules) refl c.area.ensures.puts.put _ c.told.ensures
