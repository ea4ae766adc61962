-- `read_clauses`: what the rest reads from here, the whole reads.
use native.Mathlib.Omega.{arith}
use Rattle.std.proofs.lemmas.Result.{err_from_is_err_and}
use Rattle.statement.specs.Clauses.{clause-number, clauses-end, clauses-refused, clauses-on}
use Rattle.statement.proofs.bodies.read_clauses.Goals as goal

pub returns-in_err-behind : goal.returns-in_err-behind
returns-in_err-behind c = let p = err_from_is_err_and c.from_residual.result c.from_residual.ensures.1 in rw (p.1, p.2) (clauses-refused c.loop-clause.invariant (omega arith) _ _ _ (rw (clause-number c.loop-clause.clause-index (omega arith)) at c.in_err-behind.ensures))

pub loop-clause-preserved : goal.loop-clause-preserved
loop-clause-preserved c = clauses-on c.loop-clause.invariant (omega arith) _ _ _ (rw (clause-number c.loop-clause.clause-index (omega arith)) at c.in_ok-behind.ensures)

pub returns : goal.returns
returns c = clauses-end c.loop-clause.invariant (omega arith)
