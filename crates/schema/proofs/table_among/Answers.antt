-- `table_among`: the first table of the name.
use Rattle.std.proofs.Common.{rules, tests}
use Rattle.std.proofs.lemmas.Iterator.{first_from_Range}
use Rattle.std.specs.Prelude.{◌≡◌, true, false}
use Rattle.rules.specs.Places.{bytes_at}
use Rattle.schema.specs.Search.{table_named}
use Rattle.schema.proofs.table_among.Goals as goal

pub returns : goal.returns
unfolding table_named
returns c = let named = table_named c.args.texts.now.catalog.now c.args.texts.now.statement.now c.args.tables.now
    (bytes_at c.args.texts.now.catalog.now c.args.texts.now.statement.now c.args.name.address c.args.name.length) in
    first_from_Range _ _ _ c.find.result (λ k. named k ≡ true) (λ k. named k ≡ false) c.find.ensures.ran
    (λ x q k. search (rules, tests)) (λ x q k. search (rules, tests))
