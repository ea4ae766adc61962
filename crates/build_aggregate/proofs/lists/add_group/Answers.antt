-- `lists::add_group`: an expression, and its root in the record.
use native.Mathlib.Omega.{arith}
use Rattle.plan.specs.Emits.{exit}
use Rattle.build_expression.specs.Operands.{built-within}
use Rattle.build_aggregate.specs.Kinds.{group-added, group-refused}
use Rattle.build_aggregate.proofs.lists.add_group.Goals as goal

pub returns-in_err-m : goal.returns-in_err-m
returns-in_err-m c = rw (exit c.from_residual.result c.from_residual.ensures.1)
    (group-refused c.build_expression.ensures _ _ c.in_err-m.was)

pub overflow_sub-m : goal.overflow_sub-m
overflow_sub-m c = omega (arith, (built-within _ c.build_expression.ensures c.in_ok-m.was).some')

pub returns : goal.returns
returns c = group-added c.build_expression.ensures _ c.in_ok-m.was c.push.ensures
