-- `items::select_where`: WHERE is refused, or groups follow it.
use Rattle.std.proofs.lemmas.Result.{err_from_is_err_and}
use Rattle.build_select.specs.Items.{where-room, where-follows, where-stop, where-state, where-plans}
use Rattle.build_select.proofs.items.select_where.Goals as goal

pub build_where-requires : goal.build_where-requires
build_where-requires c = record { room = where-room c.requires c.clause_at-clause.ensures; follows = where-follows c.requires c.clause_at-clause.ensures }

pub returns-in_err-filtered : goal.returns-in_err-filtered
returns-in_err-filtered c = let p = err_from_is_err_and c.from_residual.result c.from_residual.ensures.1 in rw (p.1, p.2)
    (λ h. where-stop h c.clause_at-clause.ensures ((rw (c.view.ensures.labels, c.view.ensures.matches, c.view.ensures.tables) at c.in_err-filtered.ensures).is _))

pub select_groups-requires : goal.select_groups-requires
select_groups-requires c = where-state c.requires c.clause_at-clause.ensures ((rw (c.view.ensures.labels, c.view.ensures.matches, c.view.ensures.tables) at c.in_ok-filtered.ensures).is _)

pub returns : goal.returns
returns c = λ h. where-plans h c.clause_at-clause.ensures ((rw (c.view.ensures.labels, c.view.ensures.matches, c.view.ensures.tables) at c.in_ok-filtered.ensures).is _)
    (c.select_groups.ensures (where-state h c.clause_at-clause.ensures ((rw (c.view.ensures.labels, c.view.ensures.matches, c.view.ensures.tables) at c.in_ok-filtered.ensures).is _)))
