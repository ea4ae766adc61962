-- `merges::merge_scopes`, by what `may_merge` told.
use Rattle.std.proofs.Common.{rules, ◌≡◌}
use Rattle.std.proofs.lemmas.Result.{err_from_is_err_and}
use Rattle.build_from.specs.Merges.{told-refused, told-allowed, mergeable, merges-refused, merges-allowed}
use Rattle.build_from.proofs.merges.merge_scopes.Goals as goal

pub merge-requires : goal.merge-requires
merge-requires c = mergeable _ _ _ _ c.requires (rw (c.view.ensures.labels, c.view.ensures.tables, c.view-2.ensures.labels, c.view-2.ensures.tables) at c.may_merge.ensures)
    (told-allowed c.may_merge.result _ c.in_ok-map_err.ensures.variant)

pub returns : goal.returns
returns c = merges-allowed _ _ _ _ c.requires (rw (c.view.ensures.labels, c.view.ensures.tables, c.view-2.ensures.labels, c.view-2.ensures.tables) at c.may_merge.ensures)
    (told-allowed c.may_merge.result _ c.in_ok-map_err.ensures.variant) _ c.merge.ensures

pub returns-in_err-map_err : goal.returns-in_err-map_err
returns-in_err-map_err c =
    let p = err_from_is_err_and c.from_residual.result c.from_residual.ensures.1 in
    let k = told-refused c.may_merge.result c.in_err-map_err.ensures.variant in
    let h = rw k.1 at c.in_err-map_err.ensures.cases in
    let e : c.in_err-map_err.field-0.0 ≡ record { reason = k.0; line = c.args.line } = search rules in
    rw (p.1, p.2, e) (merges-refused _ _ _ _ c.requires (rw (c.view.ensures.labels, c.view.ensures.tables, c.view-2.ensures.labels, c.view-2.ensures.tables) at c.may_merge.ensures) _ k.1)
