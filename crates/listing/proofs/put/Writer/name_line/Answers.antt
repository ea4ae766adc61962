-- `name_line`: the first field, the name, the number, and LF.
use Rattle.listing.specs.Fields.{fields-then}
use Rattle.listing.specs.Lines.{line, lines_same}
use Rattle.listing.specs.Own.{name_line}
use Rattle.listing.proofs.put.Writer.name_line.Goals as goal

pub returns : goal.returns
unfolding name_line
returns c = lines_same (line c.bytes.ensures (fields-then c.place.ensures c.number.ensures) c.byte.ensures) (λ d q. rw c.place_at.ensures)
