-- `compare`: std's order of the bytes.
use mathlib.Core.Path.{◌∙◌}
use Rattle.text.specs.Order.{order-std}
use Rattle.text.proofs.compare.Goals as goal

pub returns : goal.returns
returns c = c.cmp.ensures ∙ order-std _ _
