-- `insert::build_insert`: the table, its column map, and the rows.
use Rattle.plan.specs.Emits.{exit}
use mathlib.Core.Path.{refl}
use Rattle.build_insert.specs.Inserts.{insert-names, insert-unknown, insert-map-refused, insert-fits, insert-planned}
use Rattle.build_insert.proofs.insert.build_insert.Goals as goal

pub returns-in_err-table : goal.returns-in_err-table
returns-in_err-table c = rw (exit c.from_residual.result c.from_residual.ensures.1)
    (insert-unknown c.args.exprs.now.texts.catalog.now c.args.exprs.now.texts.statement.now c.args.tables.now c.args.exprs.now.table.now c.args.parts.now c.requires _ _ _ c.name-name.ensures.address c.name-name.ensures.length c.line.ensures c.find_table.ensures _ c.in_err-table.was)

pub column_map-requires : goal.column_map-requires
column_map-requires c = insert-names c.args.exprs.now.texts.catalog.now c.args.exprs.now.texts.statement.now c.args.tables.now c.args.exprs.now.table.now c.args.parts.now c.requires _ refl

pub map_columns-map-requires : goal.map_columns-map-requires
map_columns-map-requires c = c.in_ok-count.ensures.few

pub build_mapped-requires : goal.build_mapped-requires
build_mapped-requires c = record {
  free = c.requires.free;
  insert_fits = rw c.map_columns-map.ensures (insert-fits c.args.exprs.now.texts.catalog.now c.args.exprs.now.texts.statement.now c.args.tables.now c.args.exprs.now.table.now c.args.parts.now c.requires _ _ _ c.name-name.ensures.address c.name-name.ensures.length c.line.ensures c.find_table.ensures _ c.in_ok-table.was c.column_map.ensures.map _ c.in_ok-count.was);
}

pub returns-in_err-count : goal.returns-in_err-count
returns-in_err-count c = rw (exit c.from_residual-in_err-count.result c.from_residual-in_err-count.ensures.1)
    (insert-map-refused c.args.exprs.now.texts.catalog.now c.args.exprs.now.texts.statement.now c.args.tables.now c.args.exprs.now.table.now c.args.parts.now c.requires _ _ _ c.name-name.ensures.address c.name-name.ensures.length c.line.ensures c.find_table.ensures _ c.in_ok-table.was c.column_map.ensures.map _ c.in_err-count.was)

pub returns : goal.returns
returns c = insert-planned c.args.exprs.now.texts.catalog.now c.args.exprs.now.texts.statement.now c.args.tables.now c.args.exprs.now.table.now c.args.parts.now c.requires _ _ _ c.name-name.ensures.address c.name-name.ensures.length c.line.ensures c.find_table.ensures _ c.in_ok-table.was c.column_map.ensures.map _ c.in_ok-count.was (rw (← c.map_columns-map.ensures) c.build_mapped.ensures)
