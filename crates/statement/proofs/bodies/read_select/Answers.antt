-- `read_select`: the items, FROM, the clauses; then the number of FROM rows is stored.
use native.Mathlib.Omega.{arith}
use Rattle.std.proofs.lemmas.Result.{err_from_is_err_and}
use Rattle.read_expression.specs.Given.{given-done}
use Rattle.statement.specs.SelectReads.{select-refused, select-from-refused, from-took, select_read, select-run-refused}
use Rattle.statement.proofs.bodies.read_select.Goals as goal

pub read_some-requires : goal.read_some-requires
read_some-requires c = rw (c.requires.line, c.requires.rows) c.requires.position

pub read_froms-requires : goal.read_froms-requires
read_froms-requires c = (given-done _ _ _ _ _ _ _ _ (rw (c.requires.line, c.requires.rows) at (c.in_ok-items.ensures 0))).position

pub read_clauses-requires : goal.read_clauses-requires
read_clauses-requires c = (from-took _ _ _ _ _ _ _ (rw (c.requires.line, c.requires.rows) at (c.in_ok-items.ensures 0)) _ _ _ c.in_ok-f.ensures).position

pub returns-in_err-items : goal.returns-in_err-items
returns-in_err-items c = let p = err_from_is_err_and c.from_residual.result c.from_residual.ensures.1 in rw (p.1, p.2) (select-refused _ _ _ _ _ _ _ _ (rw (c.requires.line, c.requires.rows) at (c.in_err-items.ensures 0)))

pub returns-in_err-f : goal.returns-in_err-f
returns-in_err-f c = let p = err_from_is_err_and c.from_residual-in_err-f.result c.from_residual-in_err-f.ensures.1 in rw (p.1, p.2) (select-from-refused _ _ _ _ _ _ _ (rw (c.requires.line, c.requires.rows) at (c.in_ok-items.ensures 0)) _ _ _ c.in_err-f.ensures)

pub returns-in_err-clauses : goal.returns-in_err-clauses
returns-in_err-clauses c = let p = err_from_is_err_and c.from_residual-in_err-clauses.result c.from_residual-in_err-clauses.ensures.1 in rw (p.1, p.2) (select-run-refused _ _ _ _ _ _ _ (rw (c.requires.line, c.requires.rows) at (c.in_ok-items.ensures 0)) _ _ _ c.in_ok-f.ensures _ _ _ c.in_err-clauses.ensures (omega arith))

pub returns : goal.returns
returns c = select_read _ _ _ _ _ _ _ (rw (c.requires.line, c.requires.rows) at (c.in_ok-items.ensures 0)) _ _ _ c.in_ok-f.ensures _ _ _ c.in_ok-clauses.ensures (omega arith)
