-- `columns`: the lines of the columns counted are put.
use Rattle.listing.specs.Lines.{each, listed, lines_none, lines_more, lines-all, lines_same}
use Rattle.std.proofs.Common.{ap}
use Rattle.listing.specs.Own.{column_lines, columns_lines}
use Rattle.listing.proofs.put.Writer.columns.Goals as goal

pub loop-i-init : goal.loop-i-init
unfolding listed
loop-i-init c = lines_none

pub loop-i-preserved : goal.loop-i-preserved
unfolding column_lines
loop-i-preserved c = lines_more _ c.loop-i.invariant (lines_same c.created.ensures (λ d q. ap (column_lines d q 0) c.tail.ensures))

pub returns : goal.returns
unfolding each columns_lines
returns c = lines-all _ c.loop-i.invariant c.loop-i.auto.i-end c.loop-i-test.false
