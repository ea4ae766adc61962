-- `nodes`: the lines of the nodes counted, and where the next starts.
use Rattle.listing.specs.Behind.{NodeLoop}
use Rattle.listing.proofs.put.Writer.nodes.Given as goal

abbrev pub invariant-loop-i : goal.invariant-loop-i
invariant-loop-i l = NodeLoop l.fn.self l.self l.area l.rest l.i
