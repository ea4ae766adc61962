-- `lookup::has_table`: a table of that name.
use Rattle.std.proofs.Common.{rules, tests, ◌∙◌}
use Rattle.std.proofs.lemmas.Iterator.{YieldsList-from_slice}
use Rattle.std.proofs.lemmas.Iterator.Search.{any_from_yields_List}
use Rattle.rules.specs.Equality.{same_name}
use Rattle.scope.specs.Labels.{name_at}
use Rattle.scope.specs.Names.{holds, holds-any}
use Rattle.scope.proofs.lookup.has_table.Goals as goal

pub returns : goal.returns
unfolding holds
returns c = λ w e.
    any_from_yields_List (λ x. same_name (name_at c.args.texts.now.catalog.now c.args.texts.now.statement.now x) w) _ _ _ c.any.ensures.ran
    (YieldsList-from_slice _ c.iter.ensures.rest) (λ x b q k. search (rules, tests, e))
    ∙ holds-any c.args.texts.now.catalog.now c.args.texts.now.statement.now c.args.tables.now w
