-- `rows::build_value`: the cells of the expression, then its root.
use Rattle.plan.specs.Emits.{exit}
use native.Mathlib.Omega.{arith}
use Rattle.build_insert.specs.Values.{value-refused, value-some, value-done}
use Rattle.build_insert.proofs.rows.build_value.Goals as goal

pub overflow_sub-next : goal.overflow_sub-next
overflow_sub-next c = omega (arith, value-some c.build_expression.ensures _ c.in_ok-next.was)

pub returns-in_err-next : goal.returns-in_err-next
returns-in_err-next c = rw (exit c.from_residual.result c.from_residual.ensures.1) (value-refused c.build_expression.ensures _ c.in_err-next.was)

pub returns : goal.returns
returns c = value-done c.build_expression.ensures _ c.in_ok-next.was c.push.ensures
