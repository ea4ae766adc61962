-- `leaves::column`: the cell of the column that is looked up, or the refusal.
use mathlib.Core.Path.{refl}
use Rattle.plan.specs.Emits.{exit}
use Rattle.build_expression.specs.Steps.{column-emits, column-stops}
use Rattle.build_expression.proofs.leaves.column.Goals as goal

pub returns : goal.returns
returns c = λ e h. rw (← c.name.ensures.address, ← c.name.ensures.length, ← c.line.ensures, c.lookup-found.ensures.is e h)
    (column-emits _ _ _ _ _ _ c.position_of.ensures _ c.in_ok-i.was c.column.ensures)

pub returns-in_err-i : goal.returns-in_err-i
returns-in_err-i c = λ e h. rw (exit c.from_residual.result c.from_residual.ensures.1, ← c.name.ensures.address, ← c.name.ensures.length, ← c.line.ensures, c.lookup-found.ensures.is e h)
    (column-stops _ _ _ _ _ _ c.position_of.ensures _ c.in_err-i.was refl)
