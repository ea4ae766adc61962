-- `functions`: the fields of the parts before those left are put.
use Rattle.std.proofs.Common.{◌∷◌, [], arith}
use Rattle.listing.specs.Parts.{parts-begin, parts-more, parts-all, two-only}
use Rattle.listing.specs.Nodes.{function_fields, functions_fields}
use Rattle.listing.proofs.put.Writer.functions.Goals as goal

pub loop-function-init : goal.loop-function-init
loop-function-init c = let chunks = c.chunks_exact-function-items.ensures in parts-begin _ _ c.into_iter-function-iterator.ensures.into_iter_gives chunks.size chunks.rest

pub loop-function-preserved : goal.loop-function-preserved
unfolding function_fields
loop-function-preserved c = parts-more _ _ c.in-Some.function c.loop-function.invariant (rw c.in-Some.is at c.next.ensures.steps) (omega arith)
    (λ d q u t h. two-only (λ a b. function_fields 0 (a ∷ b ∷ [])) u t h) c.function.ensures

pub returns : goal.returns
unfolding function_fields functions_fields
returns c = parts-all _ _ c.loop-function.invariant (rw c.in-None.is at c.next.ensures.steps)
