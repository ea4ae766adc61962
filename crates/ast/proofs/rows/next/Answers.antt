-- `rows::next`: no sum overflows, since a row outside the table has 0 rows.
use Prim.Native.Nat.{ℕ, ◌+◌}
use native.Mathlib.Omega.{arith}
use mathlib.Core.Path.{◌≡◌, ap, ◌∙◌}
use Rattle.std.proofs.Math.Decide.{dec_lt}
use Rattle.ast.specs.Table.{rows_at}
use Rattle.ast.specs.Operands.{inside}
use Rattle.ast.proofs.rows.next.Goals as goal

pub overflow_add-result : goal.overflow_add-result
overflow_add-result c = elim (dec_lt 0 c.at.result) [
  | yes p ↦ omega (arith, inside _ _ _ (λ e. let z : c.at.result ≡ 0 = c.at.ensures ∙ e in omega (arith, z, p)), c.at.type_inv)
  | no p ↦ record { fits = omega (arith, c.ranges.r, p) }
]

pub returns : goal.returns
unfolding rows_at
returns c = ap (λ (n : ℕ). c.args.r + n) c.at.ensures
