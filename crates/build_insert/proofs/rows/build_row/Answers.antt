-- `rows::build_row`: how many values there are, then the values.
use Rattle.build_insert.specs.Values.{row-lists}
use Rattle.build_insert.proofs.rows.build_row.Goals as goal

pub returns : goal.returns
returns c = row-lists c.args.exprs.now.texts.catalog.now c.args.exprs.now.texts.statement.now c.args.exprs.now.table.now c.args.e.expressions c.args.e.row c.push.ensures c.build_values.ensures
