-- `drop::build_drop_table`: the own numbers alone.
use Rattle.build_statement.specs.Drops.{drop_own, drop-room, dropped}
use Rattle.build_statement.proofs.drop.build_drop_table.Goals as goal

pub finish-requires : goal.finish-requires
finish-requires c = drop-room _ _ c.args.parts.now c.name.ensures.address c.name.ensures.length
    c.clipped-name.ensures.address c.clipped-name.ensures.length c.if_exists.ensures c.drop.ensures
    c.requires

pub returns : goal.returns
returns c = dropped _ _ _ _ c.requires
    (drop_own _ _ c.args.parts.now c.name.ensures.address c.name.ensures.length
    c.clipped-name.ensures.address c.clipped-name.ensures.length c.if_exists.ensures c.drop.ensures)
    c.finish.auto.area c.finish.ensures
