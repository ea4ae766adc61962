-- `row`: a count.
use mathlib.Core.Path.{refl, ap}
use Rattle.std.specs.Prelude.{Some}
use native.Mathlib.Omega.{arith}
use Rattle.text.specs.Numbers.{count_small}
use Rattle.entries.specs.HeadRecords.{row-no, row-wrong, row-yes}
use Rattle.entries.proofs.row.Goals as goal

pub returns-then-f-ne2 : goal.returns-then-f-ne2
returns-then-f-ne2 c = λ p l. row-no _ _ _ l _ c.if-f-ne2.true refl

pub returns-in_err-v : goal.returns-in_err-v
returns-in_err-v c = λ p l. row-wrong _ _ _ l _ c.if-f-ne2.false (λ o. rw c.field.ensures at (c.in_err-v.ensures o)) c.from_residual.ensures

pub overflow_cast-v : goal.overflow_cast-v
overflow_cast-v c = record { fits = omega (arith, count_small _ _ (c.in_ok-v.ensures 0)) }

pub returns : goal.returns
returns c = λ p l. row-yes _ _ _ l _ c.if-f-ne2.false _ (λ o. rw c.field.ensures at (c.in_ok-v.ensures o)) (ap Some c.plain.ensures)
