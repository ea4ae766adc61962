-- `walk::walk_free`: what is left of the table falls with each call; the operands left say what the whole tree says.
use native.Mathlib.Omega.{arith}
use Prim.Native.Nat.{◌+◌, ◌-◌, ◌<◌, ◌≤◌}
use mathlib.Core.Path.{◌≡◌, refl, sym, ◌∙◌}
use Rattle.ast.specs.Row.{number_of}
use Rattle.ast.specs.declared.row.Kind.TheVariants as K
use Rattle.ast.proofs.KindNumbers.{same-kinds}
use Rattle.ast.specs.Operands.{operands-inside}
use Rattle.ast.proofs.Walks.{walk-stops, walk-on, walk_end, walk_more, walk-stop}
use Rattle.ast.proofs.walk.+walk_free.Goals as goal

pub returns-then-is_aggregate_call : goal.returns-then-is_aggregate_call
returns-then-is_aggregate_call t c = sym (walk-stops _ _ _ _ (sym c.is_aggregate_call.ensures ∙ c.if-is_aggregate_call.true))

pub returns-then-operands-eq0 : goal.returns-then-operands-eq0
unfolding number_of
returns-then-operands-eq0 t c = sym (walk_end _ _ _ c.operands-operands.result _ (omega arith)) ∙ walk-on _ _ _ _ c.operands-operands.result _ (sym c.is_aggregate_call.ensures ∙ c.if-is_aggregate_call.false) c.operands-operands.ensures (c.eq-any.ensures ∙ same-kinds _ K.Call c.kind_of.ensures refl)

pub overflow_add-p : goal.overflow_add-p
overflow_add-p t c = omega (arith, operands-inside _ _ (λ e. c.if-operands-eq0.false (c.operands-operands.ensures ∙ e)))

pub loop-init : goal.loop-init
unfolding number_of
loop-init t c = let z : c.operands-operands.result - 0 ≡ c.operands-operands.result = omega arith in rw z (omega arith, operands-inside _ _ (λ e. c.if-operands-eq0.false (c.operands-operands.ensures ∙ e)), walk-on _ _ _ _ _ _ (sym c.is_aggregate_call.ensures ∙ c.if-is_aggregate_call.false) c.operands-operands.ensures (c.eq-any.ensures ∙ same-kinds _ K.Call c.kind_of.ensures refl))

pub returns-then-walk_free-any : goal.returns-then-walk_free-any
returns-then-walk_free-any t c = let h : 0 < c.operands-operands.result - c.loop.counter = omega arith in sym (walk-stop _ _ _ _ _ _ h c.walk_free.ensures c.if-walk_free-any.true) ∙ c.loop.invariant.2

pub loop-preserved : goal.loop-preserved
loop-preserved t c = let h : 0 < c.operands-operands.result - c.loop.counter = omega arith in let z : c.operands-operands.result - (c.loop.counter + 1) ≡ c.operands-operands.result - c.loop.counter - 1 = omega arith in rw (z, c.next-p.ensures) (omega arith, c.loop.invariant.1, walk_more _ _ _ _ _ _ h c.walk_free.ensures c.if-walk_free-any.false ∙ c.loop.invariant.2)

pub returns : goal.returns
returns t c = let h : c.operands-operands.result - c.loop.counter ≤ 0 = omega arith in sym (walk_end _ _ _ _ _ h) ∙ c.loop.invariant.2
