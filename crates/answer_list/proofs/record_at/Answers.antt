-- `record_at`: by the fields of its line.
use mathlib.Core.Path.{◌∙◌}
use Rattle.rules.specs.Lines.{bytes}
use Rattle.answer_list.specs.Records.{count, other-line, other_word, no-first, no_second, no_third, counted}
use Rattle.answer_list.proofs.record_at.Goals as goal

pub returns-then-line-ne4 : goal.returns-then-line-ne4
unfolding count bytes
returns-then-line-ne4 c = other-line _ _ _ c.fields-line.ensures c.if-line-ne4.true

pub returns-then-not-equal : goal.returns-then-not-equal
unfolding count bytes
returns-then-not-equal c = other_word _ _ _ c.fields-line.ensures c.if-line-ne4.false _ (rw c.field.ensures at c.equal.ensures) c.if-not-equal.true

pub returns-in_err-catalog : goal.returns-in_err-catalog
unfolding count bytes
returns-in_err-catalog c = c.from_residual.ensures ∙ no-first _ _ _ c.fields-line.ensures c.if-line-ne4.false _ (rw c.field.ensures at c.equal.ensures) c.if-not-equal.false (rw c.field-2.ensures at c.in_err-catalog.ensures)

pub returns-in_err-statement : goal.returns-in_err-statement
unfolding count bytes
returns-in_err-statement c = c.from_residual-in_err-statement.ensures ∙ no_second _ _ _ c.fields-line.ensures c.if-line-ne4.false _ (rw c.field.ensures at c.equal.ensures) c.if-not-equal.false _ (rw c.field-2.ensures at c.in_ok-catalog.ensures) (rw c.field-3.ensures at c.in_err-statement.ensures)

pub returns-in_err-answer : goal.returns-in_err-answer
unfolding count bytes
returns-in_err-answer c = c.from_residual-in_err-answer.ensures ∙ no_third _ _ _ c.fields-line.ensures c.if-line-ne4.false _ (rw c.field.ensures at c.equal.ensures) c.if-not-equal.false _ (rw c.field-2.ensures at c.in_ok-catalog.ensures) _ (rw c.field-3.ensures at c.in_ok-statement.ensures) (rw c.field-4.ensures at c.in_err-answer.ensures)

pub returns : goal.returns
unfolding count bytes
returns c = c.whole.ensures ∙ counted _ _ _ c.fields-line.ensures c.if-line-ne4.false _ (rw c.field.ensures at c.equal.ensures) c.if-not-equal.false _ (rw c.field-2.ensures at c.in_ok-catalog.ensures) _ (rw c.field-3.ensures at c.in_ok-statement.ensures) _ (rw c.field-4.ensures at c.in_ok-answer.ensures)
