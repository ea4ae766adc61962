-- `orders::put_key`: the cells of a key's expression, then its part of the record.
use Rattle.build_clauses.specs.Keys.{key-refuses, key-done}
use Rattle.build_clauses.specs.Filters.{built-some}
use Rattle.plan.specs.Emits.{exit}
use native.Mathlib.Omega.{arith}
use Rattle.build_clauses.proofs.orders.put_key.Goals as goal

pub returns-in_err-p : goal.returns-in_err-p
returns-in_err-p c = rw (exit c.from_residual.result c.from_residual.ensures.1) (key-refuses c.build_expression.ensures _ _ c.expr_row-r.ensures _ c.in_err-p.was)

pub overflow_sub-p : goal.overflow_sub-p
overflow_sub-p c = let l = built-some c.build_expression.ensures _ c.in_ok-p.was in omega arith

pub returns : goal.returns
returns c = key-done c.build_expression.ensures _ _ c.expr_row-r.ensures _ c.in_ok-p.was c.key.ensures
