-- `joins::build_join`: refused by the merge or the predicate, or laid in order or swapped back.
use Rattle.build_from.specs.Joins.{join-unmerged, join-unbuilt, join-remap-room, join-ordered, join-swapped}
use Rattle.plan.specs.Emits.{exit}
use mathlib.Core.Path.{sym, ◌∙◌}
use native.Mathlib.Omega.{arith}
use Rattle.build_from.proofs.joins.build_join.Goals as goal

pub returns-in_err-s : goal.returns-in_err-s
returns-in_err-s c = rw (exit c.from_residual.result c.from_residual.ensures.1)
    (join-unmerged c.requires c.in_err-s.ensures)

pub returns-in_err-p : goal.returns-in_err-p
returns-in_err-p c = rw (exit c.from_residual-in_err-p.result c.from_residual-in_err-p.ensures.1)
    (join-unbuilt c.requires c.in_ok-s.ensures (λ h. rw (c.view.ensures.labels, c.view.ensures.matches, c.view.ensures.tables) at (c.in_err-p.ensures h)))

pub join-requires-clause-root : goal.join-requires-clause-root
join-requires-clause-root c = let b = (c.in_ok-p.ensures 0).is.behind in omega (arith, b)

pub push_remap-requires : goal.push_remap-requires
push_remap-requires c = let k = join-remap-room c.requires c.in_ok-s.ensures
    (λ h. rw (c.view.ensures.labels, c.view.ensures.matches, c.view.ensures.tables) at (c.in_ok-p.ensures h))
    c.is_outer-outer.ensures c.join.ensures in
    record { room = k.0; most = k.1 }

pub returns-then-is_right : goal.returns-then-is_right
returns-then-is_right c = rw (c.next.ensures, c.next-at.ensures) (join-swapped c.requires c.in_ok-s.ensures (λ h. rw (c.view.ensures.labels, c.view.ensures.matches, c.view.ensures.tables) at (c.in_ok-p.ensures h)) c.is_outer-outer.ensures c.join.ensures
    (sym c.if-is_right.true ∙ c.is_right.ensures) c.push_remap.ensures c.swap.ensures c.line-line.ensures)

pub returns : goal.returns
returns c = rw c.next-at.ensures (join-ordered c.requires c.in_ok-s.ensures (λ h. rw (c.view.ensures.labels, c.view.ensures.matches, c.view.ensures.tables) at (c.in_ok-p.ensures h)) c.is_outer-outer.ensures c.join.ensures
    (sym c.if-is_right.false ∙ c.is_right.ensures) c.line-line.ensures)
