-- `create::column`: its default, then its numbers.
use Rattle.build_statement.specs.Columns.{default-room, column-done, column-refused}
use Rattle.plan.specs.Emits.{exit}
use Rattle.plan.specs.Pushed.{kept-all}
use Rattle.build_statement.proofs.create.column.Goals as goal

pub default_value-requires : goal.default_value-requires
default_value-requires c = default-room c.args.exprs.now.texts.catalog.now c.args.exprs.now.texts.statement.now c.args.e c.args.new _ c.put_column.ensures c.requires

pub returns : goal.returns
returns c = column-done _ _ _ c.args.e c.args.new _ c.is_nullable-nullable.ensures _
    c.default_of.ensures _ c.in_ok-default.was c.put_column.ensures c.default_value.ensures

pub returns-in_err-default : goal.returns-in_err-default
returns-in_err-default c = rw (exit c.from_residual.result c.from_residual.ensures.1) (column-refused _ _ _ c.args.e c.args.new _ c.is_nullable-nullable.ensures _
    c.default_of.ensures _ c.in_err-default.was (kept-all _))
