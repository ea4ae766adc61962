-- `orders::build_order`: nothing, or the keys between the head of the record and its length.
use Rattle.build_clauses.specs.Orders.{order-nothing, order-stop, order-end, order-done}
use Rattle.build_clauses.specs.Keys.{keys-count}
use mathlib.Core.Path.{sym, ◌∙◌}
use Rattle.plan.specs.Emits.{exit}
use Rattle.plan.specs.Records.{opened-order}
use native.Mathlib.Omega.{arith}
use Rattle.build_clauses.proofs.orders.build_order.Goals as goal

pub returns-then-keys-eq0 : goal.returns-then-keys-eq0
returns-then-keys-eq0 c = order-nothing (sym (keys-count _ _ _ _ _ (c.count-keys.ensures _ _ _)) ∙ c.if-keys-eq0.true) (omega (arith, c.requires.follows.room))

pub end-requires : goal.end-requires
end-requires c = order-end _ (λ y. c.if-keys-eq0.false ((keys-count _ _ _ _ _ (c.count-keys.ensures _ _ _)) ∙ y)) (opened-order c.begin.ensures) c.put_keys.ensures _ c.in_ok-cell.was c.requires.follows.most

pub returns-in_err-cell : goal.returns-in_err-cell
returns-in_err-cell c = rw (exit c.from_residual.result c.from_residual.ensures.1)
    (order-stop _ (λ y. c.if-keys-eq0.false ((keys-count _ _ _ _ _ (c.count-keys.ensures _ _ _)) ∙ y)) (opened-order c.begin.ensures) c.put_keys.ensures _ c.in_err-cell.was)

pub returns : goal.returns
returns c = rw c.next.ensures (order-done _ (λ y. c.if-keys-eq0.false ((keys-count _ _ _ _ _ (c.count-keys.ensures _ _ _)) ∙ y)) (opened-order c.begin.ensures) c.put_keys.ensures _ c.in_ok-cell.was c.end.ensures)
