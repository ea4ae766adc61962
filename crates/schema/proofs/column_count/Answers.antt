-- `column_count`: as many columns as the table's numbers say.
use mathlib.Core.Path.{sym, ◌∙◌}
use Rattle.schema.specs.Search.{columns-counted}
use Rattle.schema.proofs.column_count.Goals as goal

pub returns : goal.returns
returns c c' q = (rw c.table_start.ensures at c.number.ensures) ∙ sym (columns-counted c' q _ c.args.i)
