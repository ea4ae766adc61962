-- `aggregate::build_retained`: the node's refusal, or the node and its scope.
use mathlib.Core.Path.{refl}
use Rattle.std.proofs.lemmas.Result.{err_from_is_err_and}
use Rattle.build_groups.specs.Terms.{kept-groups, kept-functions, kept-aggregable}
use Rattle.build_groups.specs.Stages.{built-few, built-refused, built-done}
use Rattle.build_groups.proofs.aggregate.build_retained.Goals as goal

pub add_aggregates-child-requires : goal.add_aggregates-child-requires
add_aggregates-child-requires c = kept-aggregable c.requires
    (built-few c.args.scope.now (rw (c.view.ensures.labels, c.view.ensures.matches, c.view.ensures.tables) at c.in_ok-cell.ensures))

pub returns-in_err-cell : goal.returns-in_err-cell
returns-in_err-cell c = let p = err_from_is_err_and c.from_residual.result c.from_residual.ensures.1 in rw (p.1, p.2)
    (λ gs fs h t. built-refused c.args.scope.now gs fs t _ _ (rw (c.view.ensures.labels, c.view.ensures.matches, c.view.ensures.tables) at c.in_err-cell.ensures)
    (kept-groups h) (kept-functions h) refl)

pub returns : goal.returns
returns c = rw c.next.ensures (λ gs fs h t. built-done c.args.scope.now gs fs t _ _ (rw (c.view.ensures.labels, c.view.ensures.matches, c.view.ensures.tables) at c.in_ok-cell.ensures)
    (kept-groups h) (kept-functions h) refl refl h.rows-are c.add_aggregates-child.ensures)
