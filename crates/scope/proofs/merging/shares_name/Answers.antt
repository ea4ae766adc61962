-- `merging::shares_name`: a name of the others that is held.
use Rattle.std.proofs.Common.{rules, tests, ◌∙◌}
use Rattle.std.proofs.lemmas.Iterator.{YieldsList-from_slice}
use Rattle.std.proofs.lemmas.Iterator.Search.{any_from_yields_List}
use Rattle.scope.specs.Labels.{name_at}
use Rattle.scope.specs.Names.{holds, sharing, sharing-any}
use Rattle.scope.proofs.merging.shares_name.Goals as goal

pub returns : goal.returns
unfolding holds sharing name_at
returns c =
    any_from_yields_List (λ y. holds c.args.texts.now.catalog.now c.args.texts.now.statement.now c.args.tables.now (name_at c.args.texts.now.catalog.now c.args.texts.now.statement.now y)) _ _ _
    c.any.ensures.ran (YieldsList-from_slice _ c.iter.ensures.rest) (λ x b q k. search (rules, tests))
    ∙ sharing-any _ _ _ _
