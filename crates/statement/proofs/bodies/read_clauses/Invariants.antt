-- `read_clauses`: what the rest reads from here, the whole reads.
use Rattle.statement.specs.Clauses.{ClausesLoop}
use Rattle.statement.proofs.bodies.read_clauses.Given as goal

abbrev pub invariant-loop-clause : goal.invariant-loop-clause
invariant-loop-clause l =
    ClausesLoop l.t l.fn.at.position l.fn.at.line l.fn.at.rows l.initial.cells l.initial.parts l.clause-index l.behind.position l.behind.line l.behind.rows l.cells l.parts
