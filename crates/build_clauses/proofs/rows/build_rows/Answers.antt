-- `rows::build_rows`: nothing, a node, or a refusal.
use Rattle.std.proofs.Common.{arith}
use Rattle.plan.specs.Emits.{exit}
use Rattle.build_clauses.specs.Rows.{rows-missing, rows-refused, rows-number, counted-by}
use Rattle.build_clauses.proofs.rows.build_rows.Goals as goal

pub returns-in_default : goal.returns-in_default
returns-in_default c = λ f v made. rows-missing _ f c.in_default.is (omega (arith, c.requires.room))

pub returns-in_err-count : goal.returns-in_err-count
returns-in_err-count c = rw (exit c.from_residual.result c.from_residual.ensures.1)
    (λ f v made. rows-refused _ f _ c.in-Some.is (counted-by _ _ c.at.ensures c.row_count.ensures) _ c.in_err-count.was)

pub returns : goal.returns
returns c = rw c.next.ensures (λ f v made.
    rows-number _ f _ c.in-Some.is (counted-by _ _ c.at.ensures c.row_count.ensures) v made _ c.in_ok-count.was c.rows.ensures)
