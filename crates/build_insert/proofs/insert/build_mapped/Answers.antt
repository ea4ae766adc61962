-- `insert::build_mapped`: the node of the rows, and the end.
use Rattle.plan.specs.Emits.{exit}
use Rattle.build_insert.specs.Inserts.{rows-refused, rows-area, rows-most, rows-map, rows-planned}
use Rattle.build_insert.proofs.insert.build_mapped.Goals as goal

pub end_insert-requires : goal.end_insert-requires
end_insert-requires c = record {
  area_room = rows-area c.requires.free c.requires.insert_fits c.build_node.ensures _ c.in_ok-cells.was;
  few_cells = rows-most c.requires.free c.requires.insert_fits
      c.build_node.ensures _ c.in_ok-cells.was;
  map_fits = rows-map c.requires.free c.requires.insert_fits c.build_node.ensures _ c.in_ok-cells.was;
}

pub returns-in_err-cells : goal.returns-in_err-cells
returns-in_err-cells c = rw (exit c.from_residual.result c.from_residual.ensures.1) (rows-refused c.requires.free c.requires.insert_fits c.build_node.ensures c.args.exprs.now.texts.catalog.now c.args.exprs.now.texts.statement.now c.args.name.address c.args.name.length _ c.in_err-cells.was)

pub returns : goal.returns
returns c = rows-planned c.requires.free c.requires.insert_fits c.build_node.ensures _ c.in_ok-cells.was c.args.exprs.now.texts.catalog.now c.args.exprs.now.texts.statement.now c.args.name.address c.args.name.length c.end_insert.auto.area c.end_insert.ensures
