-- `node::build_node`: the record begun, groups, functions, the limit, the record ended.
use native.Mathlib.Omega.{arith}
use Rattle.plan.specs.Cells.{room-less}
use Rattle.plan.specs.Emits.{exit}
use Rattle.plan.specs.Pushed.{kept-on, stored-kept}
use Rattle.plan.specs.Room.{aggregate-in-use}
use Rattle.build_aggregate.specs.Nodes.{rest-room, groups-used, functions-used, nodes-kept, node-groups, node-functions, node_wide, node-whole}
use Rattle.build_aggregate.proofs.node.build_node.Goals as goal

pub build_groups-requires : goal.build_groups-requires
build_groups-requires c = record {
  room = room-less _ (omega arith) c.requires.room;
  nodes_room = omega (
    arith,
    c.requires.nodes_room,
    aggregate-in-use _ c.begin_aggregate.ensures,
    c.begin_aggregate.ensures.kept.all,
  );
}

pub returns-in_err-m : goal.returns-in_err-m
returns-in_err-m c = rw (exit c.from_residual.result c.from_residual.ensures.1)
    (node-groups _ _ _ _ _ _ _ _ _ _ c.begin_aggregate.ensures c.build_groups.ensures _ c.in_err-m.was)

pub end_groups-requires : goal.end_groups-requires
end_groups-requires c =
    let u = groups-used _ _ _ _ _ _ _ c.args.functions.now _ _ c.begin_aggregate.ensures c.build_groups.ensures _ c.in_ok-m.was in
    let k = kept-on c.begin_aggregate.ensures.kept (c.build_groups.ensures.is 0).kept in (
      omega (arith, u),
      omega (arith, u, k.all, c.requires.nodes_room),
      omega (arith, u, c.requires.nodes_room, c.requires.nodes_len_bound),
    )

pub build_functions-requires : goal.build_functions-requires
build_functions-requires c =
    let u = groups-used _ _ _ _ _ _ _ c.args.functions.now _ _ c.begin_aggregate.ensures c.build_groups.ensures _ c.in_ok-m.was in
    let k = kept-on (kept-on c.begin_aggregate.ensures.kept (c.build_groups.ensures.is 0).kept) (stored-kept c.end_groups.ensures) in
    record {
      room = rest-room _ _ c.build_groups.ensures c.in_ok-m.was c.requires.room;
      nodes_room = omega (arith, u, c.end_groups.ensures.used, k.all, c.requires.nodes_room);
    }

pub returns-in_err-p : goal.returns-in_err-p
returns-in_err-p c = rw (exit c.from_residual-in_err-p.result c.from_residual-in_err-p.ensures.1)
    (node-functions _ _ _ _ _ _ _ _ _ _ c.begin_aggregate.ensures c.build_groups.ensures _ c.in_ok-m.was
    c.end_groups.ensures c.build_functions.ensures _ c.in_err-p.was)

pub returns-then-groups-functions-gt-COLUMNS : goal.returns-then-groups-functions-gt-COLUMNS
returns-then-groups-functions-gt-COLUMNS c = rw c.at.ensures (node_wide _ _ _ _ _ _ _ _ _ _ c.begin_aggregate.ensures
    c.build_groups.ensures _ c.in_ok-m.was c.end_groups.ensures c.build_functions.ensures _ c.in_ok-p.was _ _
    c.if-groups-functions-gt-COLUMNS.true c.row_at-r.ensures c.line.ensures)

pub end-requires : goal.end-requires
end-requires c =
    let u = functions-used _ _ _ _ _ _ _ _ _ _ c.begin_aggregate.ensures c.build_groups.ensures _ c.in_ok-m.was
    c.end_groups.ensures c.build_functions.ensures _ c.in_ok-p.was in
    let k = nodes-kept _ _ _ _ _ _ _ _ _ _ c.begin_aggregate.ensures c.build_groups.ensures _ c.in_ok-m.was
    c.end_groups.ensures c.build_functions.ensures in (
      omega (arith, u),
      omega (arith, u, k.all, c.requires.nodes_room),
      omega (arith, u, c.requires.nodes_room, c.requires.nodes_len_bound),
    )

pub returns : goal.returns
returns c = node-whole _ _ _ _ _ _ _ _ _ _ c.begin_aggregate.ensures c.build_groups.ensures _ c.in_ok-m.was
    c.end_groups.ensures c.build_functions.ensures _ c.in_ok-p.was c.if-groups-functions-gt-COLUMNS.false c.end.ensures
