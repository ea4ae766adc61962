-- `pairs`: the lines of the pairs counted are put.
use Rattle.listing.specs.Lines.{each, listed, lines_none, lines_more, lines-all, lines_same}
use Rattle.std.proofs.Common.{ap}
use Rattle.listing.specs.Own.{pair_line, pair_lines}
use Rattle.listing.proofs.put.Writer.pairs.Goals as goal

pub loop-i-init : goal.loop-i-init
unfolding listed
loop-i-init c = lines_none

pub loop-i-preserved : goal.loop-i-preserved
unfolding pair_line
loop-i-preserved c = lines_more _ c.loop-i.invariant (lines_same c.pair.ensures (λ d q. ap (pair_line c.args.first.now 0) c.tail.ensures))

pub returns : goal.returns
unfolding each pair_lines
returns c = lines-all _ c.loop-i.invariant c.loop-i.auto.i-end c.loop-i-test.false
