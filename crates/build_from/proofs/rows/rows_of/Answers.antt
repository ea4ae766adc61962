-- `rows::rows_of`, by the row's kind.
use Rattle.build_from.specs.Rows.{behind, sides-row, right-row, in-order}
use mathlib.Core.Path.{refl, sym, ◌∙◌}
use Rattle.build_from.proofs.rows.rows_of.Goals as goal

pub overflow_sub-result : goal.overflow_sub-result
overflow_sub-result c = behind _ _ c.kind_of.ensures (in-order c.in-Cross.is).0

pub overflow_sub-result-in-Right : goal.overflow_sub-result-in-Right
overflow_sub-result-in-Right c = behind _ _ (sym c.in-Right.is ∙ c.kind_of.ensures) refl

pub returns-in-Cross : goal.returns-in-Cross
returns-in-Cross c = let p = in-order c.in-Cross.is in sides-row _ _ c.kind_of.ensures p.0 p.1 c.left-l.ensures refl

pub returns-in-Right : goal.returns-in-Right
returns-in-Right c = right-row _ _ (sym c.in-Right.is ∙ c.kind_of.ensures) refl refl refl c.left-l.ensures
