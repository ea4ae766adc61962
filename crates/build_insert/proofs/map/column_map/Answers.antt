-- `map::column_map`: no map, or that of the names.
use Rattle.plan.specs.Emits.{exit}
use Rattle.build_insert.specs.Map.{columns_of, map-missing, names-fit, map-given}
use Rattle.build_insert.proofs.map.column_map.Goals as goal

pub returns-then-count-eq0 : goal.returns-then-count-eq0
returns-then-count-eq0 c = record {
  map = map-missing c.args.exprs.now.texts.catalog.now c.args.exprs.now.texts.statement.now c.args.exprs.now.table.now c.args.parts.now (columns_of c.args.exprs.now.texts.catalog.now c.args.exprs.now.texts.statement.now c.args.tables.now c.args.i) _ (c.count.ensures c.args.exprs.now.texts.catalog.now c.args.exprs.now.texts.statement.now c.args.exprs.now.table.now) c.if-count-eq0.true _;
  few = tt;
}

pub map_names-requires : goal.map_names-requires
map_names-requires c = names-fit c.args.exprs.now.texts.catalog.now c.args.exprs.now.texts.statement.now c.args.exprs.now.table.now c.args.parts.now (columns_of c.args.exprs.now.texts.catalog.now c.args.exprs.now.texts.statement.now c.args.tables.now c.args.i) _ (c.count.ensures c.args.exprs.now.texts.catalog.now c.args.exprs.now.texts.statement.now c.args.exprs.now.table.now) c.if-count-eq0.false c.args.columns.now c.requires

pub returns-in_err-count : goal.returns-in_err-count
returns-in_err-count c = rw (exit c.from_residual.result c.from_residual.ensures.1) (record {
  map = map-given c.args.exprs.now.texts.catalog.now c.args.exprs.now.texts.statement.now c.args.exprs.now.table.now c.args.parts.now (columns_of c.args.exprs.now.texts.catalog.now c.args.exprs.now.texts.statement.now c.args.tables.now c.args.i) _ (c.count.ensures c.args.exprs.now.texts.catalog.now c.args.exprs.now.texts.statement.now c.args.exprs.now.table.now) c.if-count-eq0.false c.in_err-count.ensures.map;
  few = tt;
})

pub returns : goal.returns
returns c = record {
  map = map-given c.args.exprs.now.texts.catalog.now c.args.exprs.now.texts.statement.now c.args.exprs.now.table.now c.args.parts.now (columns_of c.args.exprs.now.texts.catalog.now c.args.exprs.now.texts.statement.now c.args.tables.now c.args.i) _ (c.count.ensures c.args.exprs.now.texts.catalog.now c.args.exprs.now.texts.statement.now c.args.exprs.now.table.now) c.if-count-eq0.false c.in_ok-count.ensures.map;
  few = c.in_ok-count.ensures.few;
}
