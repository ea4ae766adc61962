-- `rows`: the fields of the numbers counted are put.
use Rattle.listing.specs.Rows.{left_same, rows-begin, rows_more, rows_all}
use Rattle.listing.proofs.put.Writer.rows.Goals as goal

pub loop-x-init : goal.loop-x-init
loop-x-init c = rows-begin _

pub loop-x-preserved : goal.loop-x-preserved
loop-x-preserved c = rows_more _ c.loop-x.invariant c.loop-x-test.true c.row.ensures (left_same _ _ _ c.checked_sub.ensures c.unwrap_or-left.ensures)

pub returns : goal.returns
returns c = rows_all _ c.loop-x.invariant c.loop-x-test.false
