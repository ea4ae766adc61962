-- `rows`: the fields of the numbers counted are put.
use Rattle.listing.specs.Rows.{RowLoop}
use Rattle.listing.proofs.put.Writer.rows.Given as goal

abbrev pub invariant-loop-x : goal.invariant-loop-x
invariant-loop-x l = RowLoop l.fn.self l.self l.s l.left l.x-index
