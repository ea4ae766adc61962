-- `qualified`: two names, or none.
use mathlib.Core.Path.{refl}
use Rattle.ast.specs.Row.{number_of}
use Rattle.read_expression.specs.RowOf.{no_row}
use Rattle.read_expression.specs.Heads.{qualified-first, qualified-second, qualified-some}
use Rattle.read_expression.proofs.heads.qualified.Goals as goal

pub returns-in_err-table : goal.returns-in_err-table
returns-in_err-table c = λ t i j. rw c.from_residual.ensures (no_row (qualified-first _ _ _ _ _ i j c.in_err-table.ensures))

pub returns-in_err-name : goal.returns-in_err-name
returns-in_err-name c = λ t i j. rw c.from_residual-in_err-name.ensures (no_row (qualified-second _ _ _ _ _ i j c.in_ok-table.ensures.0 c.in_err-name.ensures))

pub returns : goal.returns
unfolding number_of
returns c = λ t i j. qualified-some _ _ _ _ _ i j _ c.in_ok-table.ensures.0 c.in_ok-name.ensures.0 (rw (c.qualified_row.ensures, c.in_ok-table.ensures.1, c.in_ok-name.ensures.1) refl) (rw c.qualified_row.ensures refl)
