-- `rows::build_node`: the rows, between the beginning and the end of their record.
use Rattle.plan.specs.Emits.{exit}
use Rattle.build_insert.specs.Rows.{node-room, node-refused, node_end, node_lists}
use Rattle.build_insert.proofs.rows.build_node.Goals as goal

pub build_rows-requires : goal.build_rows-requires
build_rows-requires c = record { room = c.requires.room; nodes_room = node-room c.requires.rows_fit c.begin_values.ensures }

pub returns-in_err-cells : goal.returns-in_err-cells
returns-in_err-cells c = rw (exit c.from_residual.result c.from_residual.ensures.1) (node-refused c.requires.rows_fit c.begin_values.ensures c.build_rows.ensures _ c.in_err-cells.was)

pub end-requires : goal.end-requires
end-requires c = node_end c.requires.rows_fit c.begin_values.ensures c.build_rows.ensures _ c.in_ok-cells.was

pub returns : goal.returns
returns c = node_lists c.requires.rows_fit c.begin_values.ensures c.build_rows.ensures _ c.in_ok-cells.was c.end.ensures
