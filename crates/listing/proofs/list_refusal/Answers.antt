-- `list_refusal`: the line of the refusal, from the window's first byte on.
use borrow.Author.Rules.{rules}
use mathlib.Core.Path.{refl}
use Rattle.listing.specs.Listed.{held}
use Rattle.listing.proofs.list_refusal.Goals as goal

pub returns : goal.returns
returns c = held _ (search rules) refl c.refusal_line.ensures.puts.put _ c.told.ensures
