-- `expression::both_operands` meets its contract.
use Rattle.expression.specs.Answers.{answered}
use Rattle.expression.proofs.Rows.{binary-row}
use Rattle.expression.proofs.both_operands.Goals as goal

pub returns : goal.returns
unfolding answered
returns c = λ f h k. binary-row f _ _ _ _ _ _ _ c.line.ensures h _ k _ _ c.requires c.binary_operator-operator.ensures
    c.binary-w.ensures (c.worked_at.ensures _ _)
