-- `table_line`: the first field, the table, its key, the source, and LF.
use Rattle.listing.specs.Fields.{fields-then}
use Rattle.listing.specs.Lines.{line, lines_same}
use Rattle.listing.specs.Own.{table_line}
use Rattle.listing.proofs.put.Writer.table_line.Goals as goal

pub returns : goal.returns
unfolding table_line
returns c = lines_same (line c.bytes.ensures (fields-then c.place.ensures (fields-then c.number-2.ensures c.number-3.ensures)) c.byte.ensures) (λ d q. rw (c.place_at.ensures, c.number.ensures))
