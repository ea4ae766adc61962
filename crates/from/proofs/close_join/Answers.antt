-- `close_join`: the predicate where one follows, and the row.
use native.Mathlib.Omega.{arith}
use Rattle.std.proofs.lemmas.Result.{err_from_is_err_and}
use Rattle.rules.specs.Area.{option_number}
use Rattle.from.specs.Predicates.{bare-closed, predicate-closed, predicate-refused}
use Rattle.from.proofs.close_join.Goals as goal

pub returns-in_err-end : goal.returns-in_err-end
returns-in_err-end c = let p = err_from_is_err_and c.from_residual.result c.from_residual.ensures.1 in rw (p.1, p.2) (predicate-refused _ _ _ _ _ _ _ _ c.if-join.true _ _ _ c.in_err-end.ensures)

pub returns-then-join : goal.returns-then-join
unfolding option_number
returns-then-join c = predicate-closed _ _ _ _ _ _ _ _ c.if-join.true _ _ _ c.in_ok-end.ensures (omega arith) _ c.sides-s.ensures c.put_join.ensures

pub returns : goal.returns
unfolding option_number
returns c = bare-closed _ _ _ _ _ _ _ _ c.if-join.false c.requires.position _ c.sides-s.ensures _ c.put_join-2.ensures
