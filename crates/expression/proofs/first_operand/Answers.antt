-- `expression::first_operand` meets its contract.
use Rattle.ast.specs.Row.{number_of}
use Rattle.expression.specs.Answers.{answered}
use Rattle.expression.proofs.Rows.{kind_is, unary-row, is_row, root-row, kind-call}
use Rattle.expression.proofs.first_operand.Goals as goal

pub returns-in-Unary : goal.returns-in-Unary
unfolding answered number_of
returns-in-Unary c = let here = c in λ f t q h. unary-row f t q _ _ _ _ _ here.line-line.ensures h _ _
    (kind_is here.kind_of.ensures here.in-Unary.is) c.unary_operator-operator.ensures (c.unary.ensures t q) (c.worked_at.ensures t q)

pub returns-in-Is : goal.returns-in-Is
unfolding answered number_of
returns-in-Is c = let here = c in λ f t q h. is_row f t q _ _ _ _ _ here.line-line.ensures h _
    (kind_is here.kind_of.ensures here.in-Is.is) c.literal.ensures (c.is.ensures t q)

pub returns-in_default : goal.returns-in_default
unfolding answered
returns-in_default c = let here = c in let start = c in λ f t q h. root-row f t q _ _ _ _ _ here.line-line.ensures h _ start.requires.has_operands
    (kind-call f t q _ _ start.requires.has_operands here.kind_of.result here.kind_of.ensures start.requires.not_binary (search) (search))
    (c.sqrt.ensures t q) (c.worked_at-in_default.ensures t q)
