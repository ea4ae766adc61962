-- `cells`: the lines of the cells counted.
use Rattle.std.proofs.Common.{ap}
use Rattle.listing.specs.Lines.{listed, lines_none, lines_more, lines-all, lines_same}
use Rattle.listing.specs.Cells.{cell_line, cells-all}
use Rattle.listing.proofs.put.Writer.cells.Goals as goal

pub loop-i-init : goal.loop-i-init
unfolding listed
loop-i-init c = lines_none

pub loop-i-preserved : goal.loop-i-preserved
loop-i-preserved c = lines_more _ c.loop-i.invariant (lines_same c.cell.ensures (λ d q. ap (cell_line d q c.loop-i.i) c.tail.ensures))

pub returns : goal.returns
returns c = lines_same (lines-all _ c.loop-i.invariant c.loop-i.auto.i-end c.loop-i-test.false) (λ d q. cells-all _ _ _ c.number-i-end.ensures c.tail-cells.ensures)
