-- `cells::operator` meets its contract.
use mathlib.Core.Path.{refl}
use Rattle.rules.specs.Ast.{gt, lt}
use Rattle.rules.specs.Cells.{added, operator}
use Rattle.numbers.specs.Operators.{binary_operator}
use Rattle.plan.proofs.Operators.{operated-plain}
use Rattle.plan.proofs.cells.operator.Goals as goal

pub returns-in-GreaterThanOrEqual : goal.returns-in-GreaterThanOrEqual
unfolding binary_operator added operator
returns-in-GreaterThanOrEqual c = rw c.in-GreaterThanOrEqual.is
    (record { next = c.or_equal.ensures.value; puts = c.or_equal.ensures.puts gt refl })

pub returns-in-LessThanOrEqual : goal.returns-in-LessThanOrEqual
unfolding binary_operator added operator
returns-in-LessThanOrEqual c = rw c.in-LessThanOrEqual.is
    (record { next = c.or_equal-in-LessThanOrEqual.ensures.value; puts = c.or_equal-in-LessThanOrEqual.ensures.puts lt refl })

pub returns-in-NotEqual : goal.returns-in-NotEqual
unfolding binary_operator added operator
returns-in-NotEqual c = rw c.in-NotEqual.is
    (record { next = c.not_equal.ensures.value; puts = c.not_equal.ensures.puts })

pub returns-in_default : goal.returns-in_default
returns-in_default c = operated-plain _ _ _ _ _ _ c.in_default.not-GreaterThanOrEqual
    c.in_default.not-LessThanOrEqual c.in_default.not-NotEqual c.plain.ensures
