-- `float`: the digits from here on, behind the number so far, give what all give.
use Rattle.std.proofs.Common.{sym, ◌∙◌, arith}
use Rattle.literal.specs.Floats.{float-length, float-digits, room, power-step, hex-wrong, hex-step, hex-end, hex-small}
use Rattle.literal.proofs.float.Goals as goal

pub returns-then-x-ne16 : goal.returns-then-x-ne16
returns-then-x-ne16 c = sym (float-length _ c.if-x-ne16.true)

pub overflow_mul-v : goal.overflow_mul-v
overflow_mul-v c = omega (arith, room _ _ 0 c.loop-b.invariant.0 (omega arith) (omega arith))

pub returns-in_err-v : goal.returns-in_err-v
returns-in_err-v c = rw c.from_residual.ensures (sym (hex-wrong _ _ _ c.loop-b-test.true c.in_err-v.ensures) ∙ c.loop-b.invariant.1 ∙ sym (float-digits _ (omega arith)))

pub overflow_add-v : goal.overflow_add-v
overflow_add-v c = omega (arith, room _ _ _ c.loop-b.invariant.0 (omega arith) (hex-small _ _ c.in_ok-v.ensures))

pub loop-b-preserved : goal.loop-b-preserved
loop-b-preserved c = (power-step _ _ _ c.loop-b.invariant.0 (hex-small _ _ c.in_ok-v.ensures), hex-step _ _ _ c.loop-b-test.true _ c.in_ok-v.ensures ∙ c.loop-b.invariant.1)

pub returns : goal.returns
returns c = sym (hex-end _ _ _ c.loop-b-test.false) ∙ c.loop-b.invariant.1 ∙ sym (float-digits _ (omega arith))
