-- `digits`: the digits from here on, behind the number so far, give what all give.
use native.Mathlib.Nat.{min-le_left}
use mathlib.Core.Path.{sym, ◌∙◌}
use Rattle.text.specs.Numbers.{digits_step, digits-wrong, digits-end}
use Rattle.text.proofs.digits.Goals as goal

pub returns-then-not-is_ascii_digit : goal.returns-then-not-is_ascii_digit
returns-then-not-is_ascii_digit c = sym (digits-wrong _ _ _ _ c.loop-b-test.true (sym c.is_ascii_digit.ensures.value ∙ c.if-not-is_ascii_digit.true)) ∙ c.loop-b.invariant.1

pub loop-b-preserved : goal.loop-b-preserved
loop-b-preserved c = (rw c.push_digit-v.ensures (min-le_left _ _), digits_step _ _ _ _ _ c.loop-b-test.true (sym c.is_ascii_digit.ensures.value ∙ c.if-not-is_ascii_digit.false) c.push_digit-v.ensures ∙ c.loop-b.invariant.1)

pub returns : goal.returns
returns c = digits-end _ _ _ _ c.loop-b-test.false c.loop-b.invariant.0 ∙ c.loop-b.invariant.1
