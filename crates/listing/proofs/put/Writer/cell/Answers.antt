-- `cell`: the first field, the number, the cell's fields, and LF.
use Rattle.rules.specs.Lines.{bytes}
use Rattle.listing.specs.Fields.{fields-then}
use Rattle.listing.specs.Lines.{line}
use Rattle.listing.specs.Cells.{cell_line}
use Rattle.listing.proofs.put.Writer.cell.Goals as goal

pub returns : goal.returns
unfolding cell_line bytes
returns c = line c.bytes.ensures (fields-then c.number.ensures c.cell_fields.ensures) c.byte.ensures
