-- `retain::has_equal`: a row whose expression is equal.
use Rattle.std.proofs.Common.{rules, tests, ◌∙◌}
use Rattle.std.proofs.lemmas.Iterator.{YieldsList-from_slice}
use Rattle.std.proofs.lemmas.Iterator.Search.{any_from_yields_List}
use Rattle.rules.specs.Equality.{equal}
use Rattle.ast.specs.Table.{tree_at}
use Rattle.scope.specs.Tests.{any-is}
use Rattle.scope.specs.Retain.{has_equal}
use Rattle.scope.proofs.retain.has_equal.Goals as goal

pub returns : goal.returns
unfolding has_equal
returns c =
    let e = tree_at c.args.exprs.now.texts.catalog.now c.args.exprs.now.texts.statement.now c.args.exprs.now.table.now in
    any_from_yields_List (λ k. equal (e k) (e c.args.r)) _ _ _ c.any.ensures.ran (YieldsList-from_slice _ c.iter.ensures.rest)
    (λ x b q k. search (rules, tests))
    ∙ any-is _ _
