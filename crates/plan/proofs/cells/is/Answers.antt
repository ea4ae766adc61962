-- `cells::is`, by the literal's kind.
use Rattle.rules.specs.Cells.{is}
use Rattle.numbers.specs.Literals.{literal_of}
use Rattle.plan.specs.Literals.{is-null-numbers}
use Rattle.plan.proofs.cells.is.Goals as goal

pub returns-in-Float : goal.returns-in-Float
unfolding literal_of
returns-in-Float c = λ t q. rw c.in-Float.is c.is_nan.ensures

pub returns-in_default : goal.returns-in_default
returns-in_default c = λ t q. c.put_cell.ensures (is _ _) (is-null-numbers _ t q _ _ _ c.in_default.not-Float)
