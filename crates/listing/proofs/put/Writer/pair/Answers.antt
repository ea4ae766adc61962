-- `pair`: the first field, two numbers, and LF.
use Rattle.listing.specs.Fields.{fields-then}
use Rattle.listing.specs.Lines.{line, lines_same}
use Rattle.listing.specs.Own.{pair_line}
use Rattle.listing.proofs.put.Writer.pair.Goals as goal

pub returns : goal.returns
unfolding pair_line
returns c = lines_same (line c.bytes.ensures (fields-then c.number-2.ensures c.number-4.ensures) c.byte.ensures) (λ d q. cc)
