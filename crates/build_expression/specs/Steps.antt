-- What one step appends: the cell or the cells of a column, a literal or an operator, or a refusal.
use Rattle.std.specs.Prelude.{ℕ, ◌+◌, ◌-◌, pred, true, false, List, [], ◌∷◌, length, Ok, Err}
use Rattle.std.proofs.Common.{arith, sub-one, sym, ap, ◌∙◌}
use Rattle.std.proofs.Math.Path.{◌≡◌, refl}
use Rattle.rules.specs.Refusals.{◌>>=◌, refuse, refuse_if, invalid_is}
use Rattle.rules.specs.Schema.{Value}
use Rattle.rules.specs.Ast.{Unary, Binary}
use Rattle.rules.specs.Cells.{operator}
use Rattle.rules.specs.Cells as C
use Rattle.rules.specs.Scope.{Found, at, missing}
use Rattle.rules.specs.BuildExpression.{found, is_null_or_nan}
use Rattle.claims.specs.Cells.Length.{operator-length}
use Rattle.plan.specs.Cells.{Puts, Operated}
use Rattle.numbers.specs.Reasons.{named}
use Rattle.numbers.specs.declared.refusals.Reason.TheVariants as Re
use Rattle.numbers.specs.declared.refusals.Refusal.{Refusal}
use Rattle.plan.specs.Emits.{Written, Emits, accepts, refuses}
use Rattle.build_expression.specs.Positions.{position_of}
use Rattle.build_expression.specs.Rows.{column_step, literal_step, unary_step, is_step, binary_step}

-- a column by its position p
module _ (n l : ℕ) (f : Found) (area area' : List ℕ) (p : Written) (h : p ≡ position_of (found l f)) where
  pub column-emits : (i : ℕ) → p ≡ Ok i → Puts n (C.column i ∷ []) area area'
      → Emits (column_step n l f) n area area' (Ok (n + 1))
  unfolding column_step found ◌>>=◌ position_of refuse
  column-emits i e s = go f refl (sym e ∙ h)
    where
      go : (b : Found) → f ≡ b → ◌≡◌ {A = Written} (Ok i) (position_of (found l b)) → Emits (column_step n l f) n area area' (Ok (n + 1))
      go (at j) g y = let z : j ≡ i = cc in accepts (n + 1) s refl (rw (g, z))
      go (missing w) g y = grind arith

  pub column-stops : (w : Refusal) → p ≡ Err w → length area' ≡ length area
      → Emits (column_step n l f) n area area' (Err w)
  unfolding column_step found ◌>>=◌ position_of refuse
  column-stops v e k = go f refl (sym e ∙ h)
    where
      go : (b : Found) → f ≡ b → ◌≡◌ {A = Written} (Err v) (position_of (found l b)) → Emits (column_step n l f) n area area' (Err v)
      go (at j) g z = grind arith
      go (missing w) g z =
          let u : v ≡ record { reason = named w; line = l } = cc in
          rw u (refuses w l (named w) l k refl refl (rw g))

pub literal-emits : (n : ℕ) (v : Value) (area area' : List ℕ) → Puts n (C.constant v ∷ []) area area'
    → Emits (literal_step n v) n area area' (Ok (n + 1))
unfolding literal_step
literal-emits n v area area' p = accepts (n + 1) p refl refl

-- BEHIND THE OPERANDS, whose roots are their last cells
pub unary-emits : (o : Unary) (m : ℕ) (area area' : List ℕ) → Puts m (C.unary o (m - 1) ∷ []) area area'
    → Emits (unary_step o m) m area area' (Ok (m + 1))
unfolding unary_step
unary-emits o m area area' p = accepts (m + 1) (rw (sub-one m) at p) refl refl

module _ (l : ℕ) (v : Value) (m : ℕ) (area area' : List ℕ) where
  pub is-emits : is_null_or_nan v ≡ true → Puts m (C.is (m - 1) v ∷ []) area area'
      → Emits (is_step l v m) m area area' (Ok (m + 1))
  unfolding is_step refuse_if ◌>>=◌
  is-emits e p = accepts (m + 1) (rw (sub-one m) at p) refl (rw e)

  pub is-stops : (y : ℕ) → is_null_or_nan v ≡ false → y ≡ l → length area' ≡ length area
      → Emits (is_step l v m) m area area' (Err (record { reason = Re.InvalidIs; line = y }))
  unfolding is_step refuse_if refuse ◌>>=◌ named
  is-stops y e f g = refuses invalid_is l Re.InvalidIs y g refl f (rw e)

pub binary-emits : (o : Binary) (m k r : ℕ) (area area' : List ℕ) → Operated o k (m - 1) (k - 1) area area' r
    → Emits (binary_step o m k) k area area' (Ok r)
unfolding binary_step
binary-emits o m k r area area' h =
    let p : Puts k (operator o k (pred m) (pred k)) area area' = rw (sub-one m, sub-one k) at h.puts in
    accepts r p (ap (λ (j : ℕ). k + j) (operator-length o k (pred m) (pred k)) ∙ sym h.next) (rw h.next)
