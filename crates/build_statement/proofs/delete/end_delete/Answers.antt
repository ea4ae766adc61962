-- `delete::end_delete`: the scan, the own numbers and the end.
use native.Mathlib.Omega.{arith}
use Rattle.build_statement.specs.Deletes.{delete-own-room, delete-room, delete-ends}
use Rattle.build_statement.proofs.delete.end_delete.Goals as goal

pub scan-requires : goal.scan-requires
scan-requires c = record {
  room = omega (arith, c.requires.free.none, c.requires.free.nodes_room);
  root = omega (arith, c.requires.root_behind, c.requires.few_cells);
}

pub delete-requires : goal.delete-requires
delete-requires c = delete-own-room _ _ c.args.tables.now c.args.target.now.table _ _ _ c.requires.free c.clipped-name.ensures.address
    c.clipped-name.ensures.length c.scan.ensures

pub finish-requires : goal.finish-requires
finish-requires c = delete-room _ _ c.args.tables.now c.args.target.now.table _ _ _ c.requires.free c.clipped-name.ensures.address
    c.clipped-name.ensures.length c.scan.ensures c.key.ensures c.delete.ensures c.requires.few_cells

pub returns : goal.returns
returns c = delete-ends _ _ c.args.tables.now c.args.target.now.table _ _ _ c.requires.free c.clipped-name.ensures.address
    c.clipped-name.ensures.length c.scan.ensures c.key.ensures c.delete.ensures _
    c.requires.few_cells c.finish.ensures
