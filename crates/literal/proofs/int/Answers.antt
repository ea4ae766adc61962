-- `int`: by the sign, then the decimal behind it.
use Prim.Native.Nat.{◌<◌}
use mathlib.Core.Path.{◌≡◌, ◌∙◌}
use native.Mathlib.Omega.{arith}
use borrow.Author.Tests.{ltb-true, ltb-false}
use lib.ListN.{length, get_or}
use Rattle.rules.specs.Lists.{map_option}
use Rattle.rules.specs.Lines.{within, negated}
use Rattle.literal.specs.Integers.{integer-minus, integer-plain}
use Rattle.literal.proofs.int.Goals as goal
use Rattle.literal.proofs.int.Goals.{in_default-via-then-x-lt1, in_default-via-else-x-lt1+in_default-1}

pub returns-in_err-decimal-in-45 : goal.returns-in_err-decimal-in-45
unfolding map_option within negated
returns-in_err-decimal-in-45 c =
    let e : get_or c.args.x.now 0 0 ≡ 45 = omega arith in
    rw c.from_residual.ensures (integer-minus _ _ (omega arith) e c.in_err-decimal-in-45.ensures)

pub returns-in_ok-decimal-in-45 : goal.returns-in_ok-decimal-in-45
returns-in_ok-decimal-in-45 c =
    let e : get_or c.args.x.now 0 0 ≡ 45 = omega arith in
    c.negative.ensures ∙ integer-minus _ _ (omega arith) e c.in_ok-decimal-in-45.ensures

pub returns-in_err-decimal-in_default : goal.returns-in_err-decimal-in_default
unfolding map_option within
returns-in_err-decimal-in_default c =
    let e : 0 < length c.args.x.now → get_or c.args.x.now 0 0 ≡ 45 → ⊥ = elim c.in_default.branch [
      | in_default-via-then-x-lt1 w ↦ λ l e. omega (arith, ltb-true, ltb-false)
      | in_default-via-else-x-lt1+in_default-1 w ↦ λ l e. omega (arith, ltb-true, ltb-false)
    ] in
    rw c.from_residual-in_err-decimal-in_default.ensures (integer-plain _ _ e c.in_err-decimal-in_default.ensures)

pub returns-in_ok-decimal-in_default : goal.returns-in_ok-decimal-in_default
returns-in_ok-decimal-in_default c =
    let e : 0 < length c.args.x.now → get_or c.args.x.now 0 0 ≡ 45 → ⊥ = elim c.in_default.branch [
      | in_default-via-then-x-lt1 w ↦ λ l e. omega (arith, ltb-true, ltb-false)
      | in_default-via-else-x-lt1+in_default-1 w ↦ λ l e. omega (arith, ltb-true, ltb-false)
    ] in
    c.positive.ensures ∙ integer-plain _ _ e c.in_ok-decimal-in_default.ensures
