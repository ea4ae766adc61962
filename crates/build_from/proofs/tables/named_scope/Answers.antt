-- `tables::named_scope`: with an alias or none.
use Rattle.build_from.specs.Tables.{named-by}
use Rattle.build_from.proofs.tables.named_scope.Goals as goal

pub returns : goal.returns
returns c = named-by _ _ _ c.alias.ensures c.name.ensures.address c.name.ensures.length c.unwrap_or-name.ensures c.from_table.ensures
