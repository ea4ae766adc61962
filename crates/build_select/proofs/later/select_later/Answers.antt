-- `later::select_later`: HAVING or ORDER is refused, or OFFSET follows them.
use Rattle.std.proofs.lemmas.Result.{err_from_is_err_and}
use Rattle.build_select.specs.Later.{having-room, having-follows, having-stop, order-room, order-follows, order-stop, order-state, order-plans}
use Rattle.build_select.proofs.later.select_later.Goals as goal

pub build_having-requires : goal.build_having-requires
build_having-requires c = record { room = having-room c.requires c.clause_at-clause.ensures; follows = having-follows c.requires c.clause_at-clause.ensures }

pub returns-in_err-having : goal.returns-in_err-having
returns-in_err-having c = let p = err_from_is_err_and c.from_residual.result c.from_residual.ensures.1 in rw (p.1, p.2)
    (λ h. having-stop h c.clause_at-clause.ensures ((rw (c.view-view.ensures.labels, c.view-view.ensures.matches, c.view-view.ensures.tables) at c.in_err-having.ensures).is _))

pub build_order-requires : goal.build_order-requires
build_order-requires c = record {
  room = order-room c.requires c.clause_at-clause.ensures ((rw (c.view-view.ensures.labels, c.view-view.ensures.matches, c.view-view.ensures.tables) at c.in_ok-having.ensures).is _);
  follows = order-follows c.requires c.clause_at-clause.ensures ((rw (c.view-view.ensures.labels, c.view-view.ensures.matches, c.view-view.ensures.tables) at c.in_ok-having.ensures).is _);
}

pub returns-in_err-order : goal.returns-in_err-order
returns-in_err-order c = let p = err_from_is_err_and c.from_residual-in_err-order.result c.from_residual-in_err-order.ensures.1 in rw (p.1, p.2)
    (λ h. order-stop h c.clause_at-clause.ensures ((rw (c.view-view.ensures.labels, c.view-view.ensures.matches, c.view-view.ensures.tables) at c.in_ok-having.ensures).is _) ((rw (c.view-view.ensures.labels, c.view-view.ensures.matches, c.view-view.ensures.tables) at c.in_err-order.ensures).is _))

pub select_offset-requires : goal.select_offset-requires
select_offset-requires c = order-state c.requires c.clause_at-clause.ensures ((rw (c.view-view.ensures.labels, c.view-view.ensures.matches, c.view-view.ensures.tables) at c.in_ok-having.ensures).is _) ((rw (c.view-view.ensures.labels, c.view-view.ensures.matches, c.view-view.ensures.tables) at c.in_ok-order.ensures).is _)

pub returns : goal.returns
returns c = λ h. order-plans h c.clause_at-clause.ensures ((rw (c.view-view.ensures.labels, c.view-view.ensures.matches, c.view-view.ensures.tables) at c.in_ok-having.ensures).is _) ((rw (c.view-view.ensures.labels, c.view-view.ensures.matches, c.view-view.ensures.tables) at c.in_ok-order.ensures).is _)
    (c.select_offset.ensures (order-state h c.clause_at-clause.ensures ((rw (c.view-view.ensures.labels, c.view-view.ensures.matches, c.view-view.ensures.tables) at c.in_ok-having.ensures).is _) ((rw (c.view-view.ensures.labels, c.view-view.ensures.matches, c.view-view.ensures.tables) at c.in_ok-order.ensures).is _)))
