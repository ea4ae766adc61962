-- `items::select_items`: the items are refused, or WHERE follows them.
use native.Mathlib.Omega.{arith}
use Rattle.std.proofs.lemmas.Result.{err_from_is_err_and}
use Rattle.build_select.specs.Items.{items-stop, items-on, items-goes}
use Rattle.build_select.proofs.items.select_items.Goals as goal

pub select_where-requires : goal.select_where-requires
select_where-requires c = items-on c.requires (rw (c.view-view.ensures.labels, c.view-view.ensures.tables) at c.in_ok-count.ensures) c.first-listed.ensures
    (omega arith)

pub returns-in_err-count : goal.returns-in_err-count
returns-in_err-count c = let p = err_from_is_err_and c.from_residual.result c.from_residual.ensures.1 in rw (p.1, p.2)
    (λ h. items-stop h (rw (c.view-view.ensures.labels, c.view-view.ensures.tables) at c.in_err-count.ensures))

pub returns : goal.returns
returns c = λ h. items-goes h (rw (c.view-view.ensures.labels, c.view-view.ensures.tables) at c.in_ok-count.ensures) c.first-listed.ensures
    (omega arith) c.select_where.ensures
