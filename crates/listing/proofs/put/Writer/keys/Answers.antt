-- `keys`: the fields of the parts before those left are put.
use Rattle.std.proofs.Common.{◌∷◌, [], arith}
use Rattle.listing.specs.Parts.{parts-begin, parts-more, parts-all, two-only}
use Rattle.listing.specs.Nodes.{key_fields, keys_fields}
use Rattle.listing.proofs.put.Writer.keys.Goals as goal

pub loop-key-init : goal.loop-key-init
loop-key-init c = let chunks = c.chunks_exact-key-items.ensures in parts-begin _ _ c.into_iter-key-iterator.ensures.into_iter_gives chunks.size chunks.rest

pub loop-key-preserved : goal.loop-key-preserved
unfolding key_fields
loop-key-preserved c = parts-more _ _ c.in-Some.key c.loop-key.invariant (rw c.in-Some.is at c.next.ensures.steps) (omega arith)
    (λ d q u t h. two-only (λ a b. key_fields 0 (a ∷ b ∷ [])) u t h) c.key.ensures

pub returns : goal.returns
unfolding key_fields keys_fields
returns c = parts-all _ _ c.loop-key.invariant (rw c.in-None.is at c.next.ensures.steps)
