-- `create::table`: its head, then the columns.
use native.Mathlib.Omega.{arith}
use Rattle.build_statement.specs.Columns.{word, head-in-use, table-pushes}
use Rattle.build_statement.specs.Create.{word-span}
use Rattle.build_statement.proofs.create.table.Goals as goal

pub columns-requires : goal.columns-requires
columns-requires c =
    let a = c.create.ensures (word c.args.exprs.now.texts.catalog.now c.args.exprs.now.texts.statement.now c.args.exprs.now.table.now c.args.parts.now)
    (word-span c.args.exprs.now.texts.catalog.now c.args.exprs.now.texts.statement.now c.args.parts.now c.name.ensures.address
    c.name.ensures.length c.clipped-name.ensures.address c.clipped-name.ensures.length) in
    omega (
      arith,
      c.requires,
      head-in-use c.args.exprs.now.texts.catalog.now c.args.exprs.now.texts.statement.now c.args.exprs.now.table.now c.args.parts.now _ _ (c.count-count.ensures c.args.exprs.now.texts.catalog.now c.args.exprs.now.texts.statement.now c.args.exprs.now.table.now) a,
      a.kept.all,
    )

pub returns : goal.returns
returns c = table-pushes c.args.exprs.now.texts.catalog.now c.args.exprs.now.texts.statement.now c.args.exprs.now.table.now c.args.parts.now _ _ (c.count-count.ensures c.args.exprs.now.texts.catalog.now c.args.exprs.now.texts.statement.now c.args.exprs.now.table.now)
    (c.create.ensures (word c.args.exprs.now.texts.catalog.now c.args.exprs.now.texts.statement.now c.args.exprs.now.table.now c.args.parts.now)
    (word-span c.args.exprs.now.texts.catalog.now c.args.exprs.now.texts.statement.now c.args.parts.now c.name.ensures.address
    c.name.ensures.length c.clipped-name.ensures.address c.clipped-name.ensures.length))
    c.columns.ensures
