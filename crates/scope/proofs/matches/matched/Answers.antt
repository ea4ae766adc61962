-- `matches::matched`: the position of the first match of an equal expression.
use Rattle.std.proofs.Common.{rules, tests}
use Rattle.std.proofs.lemmas.Iterator.{YieldsList-from_slice}
use Rattle.std.proofs.lemmas.Iterator.Search.{position_from_yields_List}
use Rattle.ast.specs.Expressions.{tree_in}
use Rattle.scope.specs.Matches.{is_match_of, match-first, position-below}
use Rattle.scope.proofs.matches.matched.Goals as goal

pub returns : goal.returns
returns c =
    let e = tree_in c.args.exprs.now in
    let p = position_from_yields_List (is_match_of e (e c.args.r)) _ _ _ c.position.ensures.ran
    (YieldsList-from_slice _ c.iter.ensures.rest) (λ x b q k. search (rules, tests)) in
    record { value = match-first e (e c.args.r) _ p; below = position-below _ _ p }
