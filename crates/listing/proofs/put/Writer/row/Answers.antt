-- `row`: by whether a number is left of the row.
use Rattle.rules.specs.Lines.{bytes}
use Rattle.listing.specs.Fields.{fields-then, fields-same}
use Rattle.listing.specs.Rows.{row_first, row_next}
use Rattle.listing.proofs.put.Writer.row.Goals.{then-left-eq0, else-left-eq0}
use Rattle.listing.proofs.put.Writer.row.Goals as goal

pub returns : goal.returns
unfolding bytes
returns c = elim c.if-left-eq0.branch [
  | then-left-eq0 w ↦ fields-same (fields-then w.field.ensures (rw w.self-is at c.number.ensures)) (λ d q. row_first _ _ w.if-left-eq0.true)
  | else-left-eq0 w ↦ fields-same (rw w.self-is at c.number.ensures) (λ d q. row_next _ _ w.if-left-eq0.false)
]
