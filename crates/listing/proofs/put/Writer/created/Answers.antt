-- `created`: the column's line and its default's.
use Rattle.listing.specs.Lines.{lines_then, lines_same}
use Rattle.listing.specs.Own.{column_lines}
use Rattle.listing.proofs.put.Writer.created.Goals as goal

pub returns : goal.returns
unfolding column_lines
returns c = lines_same (lines_then c.column.ensures c.default.ensures) (λ d q. cc)
