-- `expression::constants::check_constant` meets its contract: what is left of the table falls with each call.
use mathlib.Core.Path.{sym, ◌∙◌}
use native.Mathlib.Omega.{arith}
use Prim.Native.Nat.{◌-◌}
use Rattle.ast.specs.Operands.{operands_at, operands-inside}
use Rattle.expression.proofs.Checks.{at_row, check-start, check-end, check-stop, check-more}
use Rattle.expression.proofs.constants.+check_constant.Goals as goal

pub returns-then-count-eq0 : goal.returns-then-count-eq0
returns-then-count-eq0 t c = at_row _ _ _ _ _ (c.check_record.ensures _
    (sym (check-end _ _ _ _ (omega (arith, c.operands-count.ensures)))))

pub overflow_add-p : goal.overflow_add-p
overflow_add-p t c = omega (arith, operands-inside _ _ (λ e. c.if-count-eq0.false (c.operands-count.ensures ∙ e)))

pub loop-init : goal.loop-init
loop-init t c = (
  omega arith,
  operands-inside _ _ (λ e. c.if-count-eq0.false (c.operands-count.ensures ∙ e)),
  check-start _ _ _ _ (omega arith),
)

pub returns-in_default : goal.returns-in_default
returns-in_default t c = at_row _ _ _ _ _ (c.check_record-in_default.ensures _
    (check-stop _ _ (operands_at c.args.exprs.now.table.now c.args.r - c.loop.counter) _ _ _ c.in_default.is c.check_constant-operand.ensures (omega (arith, c.operands-count.ensures))
    ∙ c.loop.invariant.2))

pub loop-preserved : goal.loop-preserved
loop-preserved t c = let here = c in rw c.next-p.ensures (
  omega arith,
  here.loop.invariant.1,
  check-more _ _ (operands_at c.args.exprs.now.table.now c.args.r - c.loop.counter) _ _ (omega arith) _ c.in-Ok.is c.check_constant-operand.ensures (omega (arith, c.operands-count.ensures))
      ∙ here.loop.invariant.2,
)

pub returns : goal.returns
returns t c = at_row _ _ _ _ _ (c.check_record-2.ensures _
    (sym (check-end _ _ (operands_at c.args.exprs.now.table.now c.args.r - c.loop.counter) _ (omega (arith, c.operands-count.ensures))) ∙ c.loop.invariant.2))
