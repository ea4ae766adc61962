-- `build_from` meets its contract: the row falls with each call.
use native.Mathlib.Omega.{arith}
use Rattle.build_from.specs.Items.{item-table-room, item-table, first-room, first-refused, second-room}
use Rattle.build_from.specs.Items.{second-refused, join-room, item-join}
use Rattle.build_from.specs.Tables.{table-room}
use Rattle.build_from.proofs.+build_from.Goals as goal

pub build_table-requires : goal.build_table-requires
build_table-requires t c =
    let room = table-room (item-table-room _ _ _ _ _ _ c.in-None.ensures.is c.requires) in
    record { nodes_room = room.0; next_node = omega (arith, room.1) }

pub build_from-first-requires : goal.build_from-first-requires
build_from-first-requires t c = let s = c.in-Some.ensures.is in
    (omega (arith, s.first-before, c), first-room _ _ _ _ _ _ c.requires s)

pub returns-in-Err : goal.returns-in-Err
returns-in-Err t c = first-refused _ _ _ _ _ _ c.requires c.in-Some.ensures.is c.in-Err.ensures

pub build_from-second-requires : goal.build_from-second-requires
build_from-second-requires t c = let s = c.in-Some.ensures.is in
    (omega (arith, s.second-before, c), second-room _ _ _ _ _ _ c.requires s c.in-Ok.ensures)

pub returns-in-Err-second : goal.returns-in-Err-second
returns-in-Err-second t c = second-refused _ _ _ _ _ _ c.requires c.in-Some.ensures.is c.in-Ok.ensures c.in-Err-second.ensures

pub build_join-requires : goal.build_join-requires
build_join-requires t c = join-room _ _ _ _ _ _ c.requires c.in-Some.ensures.is c.in-Ok.ensures c.in-Ok-second.ensures

pub returns-in-None : goal.returns-in-None
returns-in-None t c = item-table _ _ _ _ _ _ c.in-None.ensures.is
    (c.build_table.ensures _ (item-table-room _ _ _ _ _ _ c.in-None.ensures.is c.requires))

pub returns-in-Ok-second : goal.returns-in-Ok-second
returns-in-Ok-second t c = item-join _ _ _ _ _ _ c.requires c.in-Some.ensures.is c.in-Ok.ensures c.in-Ok-second.ensures _
    c.build_join.ensures
