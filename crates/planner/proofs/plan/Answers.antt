-- `plan`: a short area is untouched; else it is cleared after a refusal.
use native.Mathlib.Omega.{arith}
use mathlib.Core.Path.{refl, sym, ◌∙◌}
use Rattle.rules.specs.Refusals.{refusal_number}
use Rattle.numbers.specs.Reasons.{reason_of}
use Rattle.rules.specs.Entry.{text_number}
use Rattle.numbers.specs.Texts.{text_of}
use Rattle.planner.specs.Outcomes.{told, entry-short, entry-long, answer-refused, answer-planned}
use Rattle.planner.proofs.plan.Goals as goal

pub returns-then-area-lt-LEAST_AREA : goal.returns-then-area-lt-LEAST_AREA
unfolding told refusal_number reason_of text_number text_of
returns-then-area-lt-LEAST_AREA c = rw (c.refuses.ensures, c.at.ensures) (entry-short _ _ _ c.if-area-lt-LEAST_AREA.true refl refl refl refl)

pub returns-then-is_err : goal.returns-then-is_err
returns-then-is_err c = entry-long _ _ _ (omega (arith, c.if-area-lt-LEAST_AREA.false))
    (answer-refused _ _ c.plan_long-planned.ensures (sym c.is_err.ensures.value ∙ c.if-is_err.true) c.clear.ensures)

pub returns-else-is_err : goal.returns-else-is_err
returns-else-is_err c = entry-long _ _ _ (omega (arith, c.if-area-lt-LEAST_AREA.false))
    (answer-planned _ _ c.plan_long-planned.ensures (sym c.is_err.ensures.value ∙ c.if-is_err.false))
