-- `read_behind`: the body, then `end`.
use mathlib.Core.Bool.{false}
use mathlib.Core.List.{[]}
use Rattle.std.proofs.lemmas.Result.{err_from_is_err_and}
use Rattle.statement.specs.EndRecord.{whole-refused, body-position, whole-read}
use Rattle.statement.proofs.read_behind.Goals as goal

pub read_end-requires : goal.read_end-requires
read_end-requires c = body-position _ _ _ _ _ _ _ _ (c.in_ok-behind.ensures (record { bytes = []; start = 0 }) false)

pub returns-in_err-behind : goal.returns-in_err-behind
returns-in_err-behind c = λ n y. let p = err_from_is_err_and c.from_residual.result c.from_residual.ensures.1 in rw (p.1, p.2) (whole-refused _ _ _ _ _ _ _ _ (c.in_err-behind.ensures n y))

pub returns : goal.returns
returns c = λ n y. whole-read _ _ _ _ _ _ _ _ (c.in_ok-behind.ensures n y) _ c.read_end.ensures
