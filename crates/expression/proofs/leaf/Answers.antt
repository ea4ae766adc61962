-- `expression::leaf` meets its contract.
use mathlib.Core.Path.{ap, ◌∙◌}
use Rattle.rules.specs.Evaluate.{evaluate, evaluate_root}
use Rattle.rules.specs.Refusals.{ok, refuse, constant_only, unknown_function, unsupported_star}
use Rattle.value.specs.Values.{held}
use Rattle.ast.specs.Operands.{tree-literal}
use Rattle.ast.specs.Row.{number_of, row-literal}
use Rattle.numbers.specs.Reasons.{reason_of}
use Rattle.expression.specs.Answers.{map_answer, answered}
use Rattle.expression.proofs.Rows.{kind_is, leaf-name, leaf-star, tree-none}
use Rattle.expression.proofs.leaf.Goals as goal

pub returns-in-Column : goal.returns-in-Column
unfolding answered reason_of map_answer refuse
returns-in-Column c = λ f t q. rw (leaf-name f t q _ _ _ c.kind_of.ensures c.in-Column.is, c.at.ensures)
    (ap (refuse constant_only) c.line-line.ensures)

pub returns-in-Call : goal.returns-in-Call
unfolding answered reason_of evaluate evaluate_root map_answer refuse number_of
returns-in-Call c = λ f t q. rw (tree-none f t q _ _ (kind_is c.kind_of.ensures c.in-Call.is) c.requires, c.at-in-Call.ensures)
    (ap (refuse unknown_function) c.line-line.ensures)

pub returns-in-Literal : goal.returns-in-Literal
unfolding answered evaluate map_answer number_of
returns-in-Literal c = λ f t q. rw (tree-literal f t q _ _ (kind_is c.kind_of.ensures c.in-Literal.is))
    (ap ok (c.literal-in-Literal.ensures t q ∙ ap held (row-literal t q _ _ c.literal.ensures)))

pub returns-in_default : goal.returns-in_default
unfolding answered reason_of evaluate map_answer refuse
returns-in_default c = λ f t q. rw (
  leaf-star f t q _ _ c.kind_of.result c.kind_of.ensures c.requires (search) (search) (search) (search),
  c.at-in_default.ensures,
)
    (ap (refuse unsupported_star) c.line-line.ensures)
