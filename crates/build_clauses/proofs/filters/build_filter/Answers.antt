-- `filters::build_filter`: the expression's cells, then the filter.
use Rattle.build_clauses.specs.Filters.{built-some, filter-done, filter-refused}
use Rattle.plan.specs.Emits.{exit}
use native.Mathlib.Omega.{arith}
use Rattle.build_clauses.proofs.filters.build_filter.Goals as goal

pub overflow_sub-cell : goal.overflow_sub-cell
overflow_sub-cell c = let l = built-some c.build_expression.ensures _ c.in_ok-cell.was in omega arith

pub returns-in_err-cell : goal.returns-in_err-cell
returns-in_err-cell c = rw (exit c.from_residual.result c.from_residual.ensures.1) (filter-refused c.build_expression.ensures _ c.in_err-cell.was)

pub returns : goal.returns
returns c = rw c.next.ensures (filter-done c.build_expression.ensures _ c.in_ok-cell.was c.filter.ensures)
