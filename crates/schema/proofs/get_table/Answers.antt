-- `get_table`: the first of all tables.
use Rattle.schema.specs.Layout.{catalog_at}
use Rattle.schema.specs.Search.{table-first}
use Rattle.schema.proofs.get_table.Goals as goal

pub returns : goal.returns
unfolding catalog_at
returns c = table-first _ _ _ _ _ _ (rw c.number.ensures at c.table_among.ensures)
