-- `create::put_column`: the numbers of a column but for its default.
use mathlib.Core.Path.{refl, sym}
use Rattle.build_expression.specs.Options.{clipped-span}
use Rattle.build_statement.specs.Create.{made_of, name-span}
use Rattle.build_statement.proofs.create.put_column.Goals as goal

pub returns : goal.returns
unfolding made_of
returns c = λ d. c.column.ensures (made_of c.args.texts.now.catalog.now c.args.texts.now.statement.now c.args.e c.args.new c.args.nullable d)
    (name-span c.args.texts.now.catalog.now c.args.texts.now.statement.now c.args.e c.name_or.ensures c.clipped-name.ensures.address c.clipped-name.ensures.length)
    refl refl (sym c.is_unique-unique.ensures) (sym (c.is_indexed-index.ensures c.args.texts.now.catalog.now c.args.texts.now.statement.now))
    (clipped-span c.args.texts.now.catalog.now c.args.texts.now.statement.now c.args.new.reference c.clipped_option-reference.ensures)
