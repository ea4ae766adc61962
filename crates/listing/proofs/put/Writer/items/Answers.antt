-- `items`: the fields of the parts before those left are put.
use Rattle.std.proofs.Common.{◌∷◌, [], arith}
use Rattle.listing.specs.Parts.{parts-begin, parts-more, parts-all, three-only}
use Rattle.listing.specs.Nodes.{item_fields, items_fields}
use Rattle.listing.proofs.put.Writer.items.Goals as goal

pub loop-item-init : goal.loop-item-init
loop-item-init c = let chunks = c.chunks_exact-item-items.ensures in parts-begin _ _ c.into_iter-item-iterator.ensures.into_iter_gives chunks.size chunks.rest

pub loop-item-preserved : goal.loop-item-preserved
unfolding item_fields
loop-item-preserved c = parts-more _ _ c.in-Some.item c.loop-item.invariant (rw c.in-Some.is at c.next.ensures.steps) (omega arith)
    (λ d q u t h. three-only (λ a b x. item_fields d q 0 (a ∷ b ∷ x ∷ [])) u t h) c.item.ensures

pub returns : goal.returns
unfolding item_fields items_fields
returns c = parts-all _ _ c.loop-item.invariant (rw c.in-None.is at c.next.ensures.steps)
