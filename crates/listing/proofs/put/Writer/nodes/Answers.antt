-- `nodes`: the lines of the nodes counted, and where the next starts.
use Rattle.listing.specs.Behind.{nodes-begin, nodes-more, nodes-all}
use Rattle.listing.proofs.put.Writer.nodes.Goals as goal

pub loop-i-init : goal.loop-i-init
loop-i-init c = nodes-begin _ c.number.ensures c.tail-rest.ensures

pub loop-i-preserved : goal.loop-i-preserved
loop-i-preserved c = nodes-more _ c.loop-i.invariant c.node.ensures c.behind-rest.ensures

pub returns : goal.returns
returns c = nodes-all _ c.loop-i.invariant c.number-i-end.ensures c.loop-i.auto.i-end c.loop-i-test.false
