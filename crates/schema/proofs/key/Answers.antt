-- `key`: the key position stands among the table's numbers.
use Rattle.schema.specs.Layout.{table_at}
use Rattle.schema.proofs.key.Goals as goal

pub returns : goal.returns
unfolding table_at
returns c c' q = rw c.table_start.ensures at c.number.ensures
