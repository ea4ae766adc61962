-- `expression::constants::check_record` meets its contract.
use mathlib.Core.Path.{sym, ap, ◌∙◌}
use Rattle.rules.specs.Refusals.{refuse, constant_only, unsupported_star}
use Rattle.ast.specs.Row.{number_of}
use Rattle.expression.specs.Constants.{checked_of, first_of}
use Rattle.numbers.specs.Reasons.{reason_of}
use Rattle.expression.specs.Answers.{answered}
use Rattle.expression.proofs.Rows.{kind_is}
use Rattle.expression.proofs.Checks.{first-and, record-name, record-call, record-operator, record_is, record-literal, record-star}
use Rattle.expression.proofs.constants.check_record.Goals as goal

pub returns-in-Column : goal.returns-in-Column
unfolding answered reason_of
returns-in-Column c = λ f h. rw c.at.ensures (ap (refuse constant_only) c.line-line.ensures
    ∙ sym (record-name f _ _ _ _ c.kind_of.ensures c.in-Column.is))

pub returns-in-Call : goal.returns-in-Call
unfolding number_of
returns-in-Call c = λ f h. ap checked_of c.and.ensures ∙ first-and _ _ ∙ (λ i. first_of (c.check_call.ensures i) (h i))
    ∙ sym (record-call f _ _ _ _ (kind_is c.kind_of.ensures c.in-Call.is))

pub returns-in-Unary : goal.returns-in-Unary
returns-in-Unary c = λ f h. h ∙ sym (record-operator f _ _ _ _ c.kind_of.ensures c.in-Unary.is)

pub returns-in-Is : goal.returns-in-Is
unfolding number_of
returns-in-Is c = let given = c.args in
    λ f h. ap checked_of c.and-in-Is.ensures ∙ first-and _ _ ∙ (λ i. first_of (h i) (c.check_is.ensures given.exprs.now.texts.catalog.now given.exprs.now.texts.statement.now i))
    ∙ sym (record_is f _ _ _ _ (kind_is c.kind_of.ensures c.in-Is.is))

pub returns-in-Literal : goal.returns-in-Literal
unfolding answered number_of
returns-in-Literal c = λ f h. sym (record-literal f _ _ _ _ (kind_is c.kind_of.ensures c.in-Literal.is))

pub returns-in-Star : goal.returns-in-Star
unfolding answered reason_of number_of
returns-in-Star c = λ f h. rw c.at-in-Star.ensures (ap (refuse unsupported_star) c.line-line.ensures
    ∙ sym (record-star f _ _ _ _ (kind_is c.kind_of.ensures c.in-Star.is)))
