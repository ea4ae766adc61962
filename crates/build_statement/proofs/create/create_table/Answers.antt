-- `create::create_table`: the table, and the area at exit.
use Rattle.plan.specs.Emits.{exit}
use mathlib.Core.Path.{refl}
use Rattle.build_statement.specs.Columns.{create-room, created, not-created}
use Rattle.build_statement.proofs.create.create_table.Goals as goal

pub finish-requires : goal.finish-requires
finish-requires c = create-room _ _ _ _ c.args.key c.table.ensures c.in_ok-table.was c.requires.free

pub returns : goal.returns
returns c = created _ _ _ _ c.args.key c.table.ensures c.in_ok-table.was c.requires.free c.finish.auto.area c.finish.ensures

pub returns-in_err-table : goal.returns-in_err-table
returns-in_err-table c = rw (exit c.from_residual.result c.from_residual.ensures.1) (not-created _ _ _ _ c.args.key
    c.table.ensures _ c.in_err-table.was refl)
