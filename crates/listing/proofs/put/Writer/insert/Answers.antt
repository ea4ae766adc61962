-- `insert`: the name's line and the column map's.
use Rattle.rules.specs.Lines.{bytes}
use Rattle.listing.specs.Lines.{lines_then, lines_same}
use Rattle.listing.specs.Own.{insert_lines}
use Rattle.listing.proofs.put.Writer.insert.Goals as goal

pub returns : goal.returns
unfolding insert_lines bytes
returns c = lines_same (lines_then c.name_line.ensures c.map.ensures) (λ d q. cc)
