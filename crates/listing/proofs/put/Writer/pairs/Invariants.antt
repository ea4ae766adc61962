-- `pairs`: the lines of the pairs counted are put.
use Rattle.std.proofs.Common.{drop, ◌*◌}
use Rattle.listing.specs.Lines.{LinesIn, listed}
use Rattle.listing.specs.Own.{pair_line}
use Rattle.listing.proofs.put.Writer.pairs.Given as goal

abbrev pub invariant-loop-i : goal.invariant-loop-i
invariant-loop-i l = LinesIn l.fn.self l.self (λ d q. listed l.i (λ j. pair_line l.first j (drop (j * 2) l.s)))
