-- `create`: the name's line and the columns'.
use Rattle.rules.specs.Lines.{bytes}
use Rattle.listing.specs.Lines.{lines_then, lines_same}
use Rattle.listing.specs.Own.{create_lines}
use Rattle.listing.proofs.put.Writer.create.Goals as goal

pub returns : goal.returns
unfolding create_lines bytes
returns c = lines_same (lines_then c.name_line.ensures c.columns.ensures) (λ d q. cc)
