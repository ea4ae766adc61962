-- `bytes`: as many as the loop has counted are put.
use Rattle.listing.specs.Put.{puts-more}
use Rattle.listing.proofs.put.Writer.bytes.Goals as goal

pub loop-byte-preserved : goal.loop-byte-preserved
loop-byte-preserved c = puts-more _ _ c.loop-byte-test.true c.loop-byte.invariant c.byte.ensures
