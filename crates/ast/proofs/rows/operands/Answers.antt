-- `rows::operands`, by the kind.
use native.Mathlib.Omega.{arith}
use Prim.Native.Nat.{ℕ, ◌<◌, ◌≤◌}
use mathlib.Core.Path.{◌≡◌, sym, ap, ◌∙◌}
use mathlib.Core.Logic.{⊎_elim}
use mathlib.Core.List.{List}
use Rattle.ast.specs.Row.{number_of}
use Rattle.ast.specs.Operands.{kind_at, operands_at, no-operands, operands-call, operands-unary, operands-binary, operands-is}
use Rattle.ast.proofs.rows.operands.Goals as goal

none : (t : List ℕ) (r n : ℕ) → n ≡ kind_at t r → (4 ≤ n → 7 < n) → 0 ≡ operands_at t r
none t r n h f = sym (no-operands t r (λ e. let g = f (omega (arith, h, e)) in omega (arith, g, h, e))
    (λ e. let g = f (omega (arith, h, e)) in omega (arith, g, h, e)) (λ e. let g = f (omega (arith, h, e)) in omega (arith, g, h, e))
    (λ e. let g = f (omega (arith, h, e)) in omega (arith, g, h, e)))

pub returns-in-Call : goal.returns-in-Call
unfolding number_of
returns-in-Call c = c.at.ensures ∙ sym (operands-call _ _ (sym c.kind_of.ensures ∙ ap number_of c.in-Call.is))

pub returns-in-Unary : goal.returns-in-Unary
unfolding number_of
returns-in-Unary c = ⊎_elim (λ e. sym (operands-unary _ _ (sym c.kind_of.ensures ∙ ap number_of e)))
    (λ e. sym (operands-is _ _ (sym c.kind_of.ensures ∙ ap number_of e))) c.in-Unary.is

pub returns-in-Binary : goal.returns-in-Binary
unfolding number_of
returns-in-Binary c = sym (operands-binary _ _ (sym c.kind_of.ensures ∙ ap number_of c.in-Binary.is))

pub returns-in-Star : goal.returns-in-Star
unfolding number_of
returns-in-Star c = ⊎_elim (λ e. none _ _ 1 (sym (ap number_of e) ∙ c.kind_of.ensures) (λ h. omega (arith, h)))
    (λ u. ⊎_elim (λ e. none _ _ 2 (sym (ap number_of e) ∙ c.kind_of.ensures) (λ h. omega (arith, h)))
    (λ v. ⊎_elim (λ e. none _ _ 3 (sym (ap number_of e) ∙ c.kind_of.ensures) (λ h. omega (arith, h)))
    (λ e. none _ _ 8 (sym (ap number_of e) ∙ c.kind_of.ensures) (λ h. omega (arith, h))) v) u) c.in-Star.is
