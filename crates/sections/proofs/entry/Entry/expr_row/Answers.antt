-- `Entry::expr_row`: the first row, or one past the end.
use Rattle.sections.specs.Expressions.{expr_row}
use Rattle.sections.proofs.entry.Entry.expr_row.Goals as goal

pub returns : goal.returns
unfolding expr_row
returns c = rw (c.unwrap_or.ensures, c.first_row.ensures)
