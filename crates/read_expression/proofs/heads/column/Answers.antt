-- `column`: a name, or none.
use mathlib.Core.Path.{refl}
use Rattle.ast.specs.Row.{number_of}
use Rattle.read_expression.specs.RowOf.{no_row}
use Rattle.read_expression.specs.Heads.{column-none, column-some}
use Rattle.read_expression.proofs.heads.column.Goals as goal

pub returns-in_err-name : goal.returns-in_err-name
returns-in_err-name c = λ t i. rw c.from_residual.ensures (no_row (column-none _ _ _ i c.in_err-name.ensures))

pub returns : goal.returns
unfolding number_of
returns c = λ t i. column-some _ _ _ i _ c.in_ok-name.ensures.0 (rw (c.plain_row.ensures, c.in_ok-name.ensures.1) refl) (rw c.plain_row.ensures refl)
