-- `case_at`: by its record, and whether its listing is its answer.
use Rattle.std.proofs.Common.{arith, sym, ◌∙◌}
use Rattle.replay.specs.Cases.{no_record, answer-long, case-fits, case-whole}
use Rattle.replay.proofs.case_at.Goals as goal

pub returns-in_err-record : goal.returns-in_err-record
returns-in_err-record c = c.from_residual.ensures ∙ no_record _ _ (sym c.record_at.ensures ∙ c.in_err-record.was)

pub returns-then-record-ge-WINDOW : goal.returns-then-record-ge-WINDOW
returns-then-record-ge-WINDOW c = answer-long _ _ _ (sym c.record_at.ensures ∙ c.in_ok-record.was) c.if-record-ge-WINDOW.true

pub overflow_add-statement : goal.overflow_add-statement
overflow_add-statement c = let h = case-fits _ _ _ (sym c.record_at.ensures ∙ c.in_ok-record.was) in omega arith

pub overflow_add-answer : goal.overflow_add-answer
overflow_add-answer c = let h = case-fits _ _ _ (sym c.record_at.ensures ∙ c.in_ok-record.was) in omega arith

pub overflow_add-result : goal.overflow_add-result
overflow_add-result c = let h = case-fits _ _ _ (sym c.record_at.ensures ∙ c.in_ok-record.was) in omega arith

pub returns : goal.returns
returns c = case-whole _ _ _ (sym c.record_at.ensures ∙ c.in_ok-record.was) c.if-record-ge-WINDOW.false c.agrees-agrees.ensures c.part.ensures
    c.part-2.ensures c.part-3.ensures
