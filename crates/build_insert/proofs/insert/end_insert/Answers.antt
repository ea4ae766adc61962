-- `insert::end_insert`: the own numbers and the end.
use Rattle.build_insert.specs.Inserts.{insert-room, insert-ends}
use Rattle.build_insert.proofs.insert.end_insert.Goals as goal

pub finish-requires : goal.finish-requires
finish-requires c = insert-room c.args.texts.now.catalog.now c.args.texts.now.statement.now c.args.name.address c.args.name.length c.args.cells _ c.put_own.ensures
    _ c.requires.area_room c.requires.map_fits.all c.requires.few_cells

pub returns : goal.returns
returns c = insert-ends c.args.texts.now.catalog.now c.args.texts.now.statement.now c.args.name.address c.args.name.length c.args.cells _ c.put_own.ensures
    c.clipped-name.ensures.address c.clipped-name.ensures.length c.finish.ensures
