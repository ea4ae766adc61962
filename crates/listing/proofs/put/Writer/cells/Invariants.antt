-- `cells`: the lines of the cells counted.
use Rattle.std.proofs.Common.{drop, ◌*◌}
use Rattle.listing.specs.Lines.{LinesIn, listed}
use Rattle.listing.specs.Cells.{cell_line}
use Rattle.listing.proofs.put.Writer.cells.Given as goal

abbrev pub invariant-loop-i : goal.invariant-loop-i
invariant-loop-i l = LinesIn l.fn.self l.self (λ d q. listed l.i (λ j. cell_line d q j (drop (j * 4) l.cells)))
