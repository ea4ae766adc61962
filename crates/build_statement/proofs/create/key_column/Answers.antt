-- `create::key_column`: the columns given as primary key from the first one found on are those from the k-th on.
use Rattle.std.proofs.Common.{arith, rules, tests}
use Rattle.std.specs.Prelude.{◌≡◌, true, false}
use Rattle.std.proofs.lemmas.Iterator.{first_from_Range}
use Rattle.sections.specs.Access.{new_column}
use Rattle.build_statement.specs.Create.{keys-found}
use Rattle.build_statement.proofs.create.key_column.Goals as goal

pub returns : goal.returns
returns c = λ b q cells. keys-found b q cells c.args.parts.now c.args.k _ (c.count-count.ensures b q cells)
    (first_from_Range _ _ _ _ (λ i. (new_column c.args.parts.now i).key ≡ true)
    (λ i. (new_column c.args.parts.now i).key ≡ false) c.find.ensures.ran
    (λ x q k. grind (arith, tests, rules))
    (λ x q k. (search rules, grind (arith, tests, rules))))
