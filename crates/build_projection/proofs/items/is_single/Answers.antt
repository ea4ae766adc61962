-- `items::is_single`: one item and no group.
use Rattle.build_projection.specs.Items.{single-not, single-is}
use Rattle.build_projection.proofs.items.is_single.Goals as goal

pub returns-else-count-eq1 : goal.returns-else-count-eq1
returns-else-count-eq1 c = single-not _ _ c.count.ensures c.if-count-eq1.false

pub returns-then-count-eq1 : goal.returns-then-count-eq1
returns-then-count-eq1 c = single-is _ _ c.count.ensures c.if-count-eq1.true _ c.count-then-count-eq1.ensures
