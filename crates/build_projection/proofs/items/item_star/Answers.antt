-- `items::item_star`: the star of an entry, where stars are expanded.
use Rattle.build_projection.specs.Items.{sought-is, sought-not}
use Rattle.build_projection.proofs.items.item_star.Goals as goal

pub returns-then-not-expand : goal.returns-then-not-expand
returns-then-not-expand c = λ ps k h d q. sought-not _ c.if-not-expand.true _

pub returns : goal.returns
returns c = λ ps k h. sought-is _ _ _ _ h _ _ c.expr_row.ensures c.star_at.ensures _ c.if-not-expand.false
