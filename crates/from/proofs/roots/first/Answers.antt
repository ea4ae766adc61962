-- `roots::first`: the row behind as many as the sides have, or 0.
use borrow.Author.Rules.{rules}
use Rattle.from.specs.Layout.{size_at, first_at}
use Rattle.from.proofs.roots.first.Goals as goal

pub returns : goal.returns
unfolding first_at size_at
returns c = search rules
