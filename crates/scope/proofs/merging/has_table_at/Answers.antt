-- `has_table_at`: the bytes at the place.
use mathlib.Core.Path.{sym}
use Rattle.rules.specs.Places.{word_at}
use Rattle.scope.proofs.merging.has_table_at.Goals as goal

pub returns : goal.returns
unfolding word_at
returns c = c.has_table.ensures _ (sym c.bytes_at.ensures)
