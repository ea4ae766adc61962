-- `column_at`: the first column of the name.
use Rattle.std.proofs.Common.{rules, tests, ◌∙◌}
use Rattle.std.proofs.lemmas.Iterator.{first_from_Range}
use Rattle.std.specs.Prelude.{◌≡◌, ◌+◌, [], true, false}
use Rattle.rules.specs.Places.{bytes_at}
use Rattle.schema.specs.Search.{column_named, column-first, columns-counted}
use Rattle.schema.proofs.column_at.Goals as goal

pub returns : goal.returns
unfolding column_named
returns c = let named = column_named c.args.texts.now.catalog.now c.args.texts.now.statement.now c.args.tables.now
    (bytes_at c.args.texts.now.catalog.now c.args.texts.now.statement.now c.args.name.address c.args.name.length) in
    column-first _ _ _ _ _ _ _ c.first_column-first.ensures.is (c.column_count-count.ensures [] [] ∙ columns-counted [] [] _ c.args.i) _
    (first_from_Range _ _ _ c.find.result (λ k. named (c.first_column-first.result + k) ≡ true) (λ k. named (c.first_column-first.result + k) ≡ false) c.find.ensures.ran
    (λ x q k. search (rules, tests)) (λ x q k. search (rules, tests)))
