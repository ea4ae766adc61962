-- `groups::select_groups`: groups or the projection are refused, or HAVING follows them.
use mathlib.Core.List.{[]}
use Rattle.std.proofs.lemmas.Result.{err_from_is_err_and}
use Rattle.build_select.specs.Groups.{groups-ready, groups-stop, projection-ready, projection-stop, projection-state, projection-plans}
use Rattle.build_select.proofs.groups.select_groups.Goals as goal

pub build_groups-requires : goal.build_groups-requires
build_groups-requires c = groups-ready c.requires []

pub returns-in_err-grouped : goal.returns-in_err-grouped
returns-in_err-grouped c = let p = err_from_is_err_and c.from_residual.result c.from_residual.ensures.1 in rw (p.1, p.2)
    (λ h. groups-stop h [] c.in_err-grouped.ensures)

pub build_projection-requires : goal.build_projection-requires
build_projection-requires c = projection-ready c.requires [] c.in_ok-grouped.ensures

pub returns-in_err-projected : goal.returns-in_err-projected
returns-in_err-projected c = let p = err_from_is_err_and c.from_residual-in_err-projected.result c.from_residual-in_err-projected.ensures.1 in rw (p.1, p.2)
    (λ h. projection-stop h [] c.in_ok-grouped.ensures (c.in_err-projected.ensures []))

pub select_later-requires : goal.select_later-requires
select_later-requires c = projection-state c.requires [] c.in_ok-grouped.ensures (c.in_ok-projected.ensures [])

pub returns : goal.returns
returns c = λ h. projection-plans h [] c.in_ok-grouped.ensures (c.in_ok-projected.ensures [])
    (c.select_later.ensures (projection-state h [] c.in_ok-grouped.ensures (c.in_ok-projected.ensures [])))
