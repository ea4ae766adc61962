-- `roots::left`: the row before the first one of the right side.
use Rattle.std.proofs.Common.{◌∙◌}
use Rattle.from.specs.Roots.{left_is}
use Rattle.from.proofs.roots.left.Goals as goal

pub returns : goal.returns
returns c = c.saturating_sub-2.ensures ∙ left_is _ _ _ (rw c.saturating_sub.ensures at c.first.ensures)
