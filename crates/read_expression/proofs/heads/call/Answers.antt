-- `call`: a name and a count, or none.
use native.Mathlib.Omega.{arith}
use mathlib.Core.Path.{refl}
use Rattle.ast.specs.Row.{number_of}
use Rattle.read_expression.specs.RowOf.{no_row}
use Rattle.read_expression.specs.Heads.{call-unnamed, call-uncounted, call-some}
use Rattle.text.specs.Numbers.{count_small}
use Rattle.read_expression.proofs.heads.call.Goals as goal

pub returns-in_err-name : goal.returns-in_err-name
returns-in_err-name c = λ t o i. rw c.from_residual.ensures (no_row (call-unnamed _ _ _ i _ c.in_err-name.ensures))

pub overflow_cast-k : goal.overflow_cast-k
overflow_cast-k c = omega (arith, count_small _ _ (c.in_ok-v.ensures 0))

pub returns-in_err-v : goal.returns-in_err-v
returns-in_err-v c = λ t o i. rw c.from_residual-in_err-v.ensures (no_row (call-uncounted _ _ _ i _ c.in_ok-name.ensures.0 (c.in_err-v.ensures o)))

pub returns : goal.returns
unfolding number_of
returns c = λ t o i. call-some _ _ _ i _ _ _ c.in_ok-name.ensures.0 (c.in_ok-v.ensures o) (rw (c.plain_row.ensures, c.in_ok-name.ensures.1) refl) (rw c.plain_row.ensures refl)
