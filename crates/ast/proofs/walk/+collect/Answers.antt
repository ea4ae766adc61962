-- `walk::collect`: what is left of the table falls with each call; what the operands left give from here on is what the whole gives.
use native.Mathlib.Omega.{arith}
use Prim.Native.Nat.{◌+◌, ◌-◌}
use mathlib.Core.Path.{◌≡◌, sym, ◌∙◌}
use Rattle.ast.specs.Operands.{operands-inside}
use Rattle.ast.proofs.Collects.{rows-match, collecting-begin, collecting-more, collecting-full, collecting-end}
use Rattle.ast.proofs.walk.+collect.Goals as goal

pub overflow_add-p : goal.overflow_add-p
overflow_add-p t c = omega (arith, operands-inside _ _ (λ e. c.if-operands-eq0.false (c.operands-operands.ensures ∙ e)))

pub returns-then-is_aggregate_call : goal.returns-then-is_aggregate_call
returns-then-is_aggregate_call t c = rw (rows-match _ _ _ _ (sym c.is_aggregate_call.ensures ∙ c.if-is_aggregate_call.true)) c.try_push.ensures

pub returns-then-operands-eq0 : goal.returns-then-operands-eq0
returns-then-operands-eq0 t c = collecting-end _ _ _ _ c.operands-operands.result _ _
    (collecting-begin _ _ _ _ _ _ (sym c.is_aggregate_call.ensures ∙ c.if-is_aggregate_call.false) c.operands-operands.ensures) (omega arith)

pub loop-init : goal.loop-init
loop-init t c = let z : c.operands-operands.result - 0 ≡ c.operands-operands.result = omega arith in rw z (
  omega arith,
  operands-inside _ _ (λ e. c.if-operands-eq0.false (c.operands-operands.ensures ∙ e)),
  collecting-begin _ _ _ _ _ _ (sym c.is_aggregate_call.ensures ∙ c.if-is_aggregate_call.false) c.operands-operands.ensures,
)

pub returns-in_err-collect : goal.returns-in_err-collect
returns-in_err-collect t c = rw c.from_residual.ensures (collecting-full _ _ _ _ _ _ _ c.loop.invariant.2 (omega (arith, c.loop-test.true)) c.collect.ensures c.in_err-collect.was)

pub loop-preserved : goal.loop-preserved
loop-preserved t c = let z : c.operands-operands.result - (c.loop.counter + 1) ≡ c.operands-operands.result - c.loop.counter - 1 = omega arith in rw (z, c.next-p.ensures) (
  omega arith,
  c.loop.invariant.1,
  collecting-more _ _ _ _ _ _ _ c.loop.invariant.2 (omega (arith, c.loop-test.true)) c.collect.ensures c.in_ok-collect.was,
)

pub returns : goal.returns
returns t c = collecting-end _ _ _ _ _ _ _ c.loop.invariant.2 (omega (arith, c.loop-test.false))
