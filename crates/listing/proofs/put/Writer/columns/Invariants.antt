-- `columns`: the lines of the columns counted are put.
use Rattle.std.proofs.Common.{drop, ◌*◌}
use Rattle.listing.specs.Lines.{LinesIn, listed}
use Rattle.listing.specs.Own.{column_lines}
use Rattle.listing.proofs.put.Writer.columns.Given as goal

abbrev pub invariant-loop-i : goal.invariant-loop-i
invariant-loop-i l = LinesIn l.fn.self l.self (λ d q. listed l.i (λ j. column_lines d q j (drop (j * 12) l.s)))
