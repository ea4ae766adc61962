-- `update`: the table's line and the pairs'.
use Rattle.rules.specs.Lines.{bytes}
use Rattle.listing.specs.Lines.{lines_then, lines_same}
use Rattle.listing.specs.Own.{update_lines}
use Rattle.listing.proofs.put.Writer.update.Goals as goal

pub returns : goal.returns
unfolding update_lines bytes
returns c = lines_same (lines_then c.table_line.ensures c.pairs.ensures) (λ d q. cc)
