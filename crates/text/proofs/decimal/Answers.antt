-- `decimal`: by the first digit.
use Prim.Native.Nat.{min, ◌<◌}
use mathlib.Core.Path.{◌≡◌, sym, ap, ◌∙◌}
use native.Mathlib.Omega.{arith}
use borrow.Author.Tests.{ltb-true, ltb-false}
use lib.ListN.{length, get_or}
use Rattle.rules.specs.Lists.{map_option}
use Rattle.text.specs.Numbers.{decimal-empty, decimal-needless, decimal-digits}
use Rattle.text.proofs.decimal.Goals as goal
use Rattle.text.proofs.decimal.Goals.{in_default-via-then-x-lt2, in_default-via-else-x-lt2+in_default-1}

pub returns-in-empty : goal.returns-in-empty
unfolding map_option
returns-in-empty c = rw (decimal-empty c.args.x.now (omega arith))

pub returns-in-empty-2 : goal.returns-in-empty-2
unfolding map_option
returns-in-empty-2 c = let e : get_or c.args.x.now 0 0 ≡ 48 = omega arith in rw (decimal-needless c.args.x.now (omega arith) e)

pub returns-in_default : goal.returns-in_default
returns-in_default c =
    let l : 0 < length c.args.x.now = omega (arith, ltb-true, ltb-false) in
    let e : 1 < length c.args.x.now → get_or c.args.x.now 0 0 ≡ 48 → ⊥ = elim c.in_default.branch [
      | in_default-via-then-x-lt2 w ↦ λ l e. omega (arith, ltb-true, ltb-false)
      | in_default-via-else-x-lt2+in_default-1 w ↦ λ l e. omega (arith, ltb-true, ltb-false)
    ] in
    c.digits.ensures ∙ ap (map_option (min c.args.most)) (sym (decimal-digits _ l e))
