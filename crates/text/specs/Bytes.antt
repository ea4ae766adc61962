-- Positions in a byte string: what stands there, and where the first of two bytes stands.
use Rattle.std.specs.Prelude.{◌⊎◌, ℕ, suc, ◌+◌, ◌-◌, ◌≤◌, ◌<◌, ◌≡◌, refl, Bool, [], ◌∷◌, length, get_or, take}
use native.Mathlib.Omega.{arith}
use Rattle.std.proofs.Common.{inl, inr, add-zero, add-one, drop_of_length-le, drop-cons, get_or-drop, length-take-le}
use Rattle.std.proofs.Math.Bool.{true, false}
use Rattle.std.proofs.Math.Dec.{eqb}
use Rattle.std.proofs.Math.ListN.{drop, length-drop}
use Rattle.std.proofs.Math.Seq.{take-nil}
use borrow.Author.Tests.{eq-eqb, ne_eqb, eqb-true}
use Rattle.rules.specs.Lists.{Bytes}

-- the bytes before the first that is x or y
unfoldable pub run : ℕ → ℕ → Bytes → ℕ
run x y [] = 0
run x y (b ∷ bs) = elim (eqb b x) [ true ↦ 0 | false ↦ elim (eqb b y) [ true ↦ 0 | false ↦ suc (run x y bs) ] ]

-- where, from p on, the first byte that is x or y stands, or the end
unfoldable pub stop_at : ℕ → ℕ → Bytes → ℕ → ℕ
stop_at x y t p = p + run x y (drop p t)

pub step : (t : Bytes) (p : ℕ) → p < length t → drop p t ≡ get_or t p 0 ∷ drop (p + 1) t
step t p h = rw (add-one p) (drop-cons t p 0 h)

pub run-most : (x y : ℕ) (bs : Bytes) → run x y bs ≤ length bs
unfolding run
run-most x y [] = omega arith
run-most x y (b ∷ bs) = go (eqb b x) (eqb b y) refl refl (run-most x y bs)
  where
    go : (m n : Bool) → eqb b x ≡ m → eqb b y ≡ n → run x y bs ≤ length bs → run x y (b ∷ bs) ≤ length (b ∷ bs)
    go true n e f ih = rw (run, e) (omega arith)
    go false true e f ih = rw (run, e, f) (omega arith)
    go false false e f ih = rw (run, e, f) (omega arith)

module _ (x y : ℕ) (t : Bytes) (p : ℕ) where
  pub stop-none : length t ≤ p → stop_at x y t p ≡ p
  unfolding stop_at run
  stop-none h = rw (drop_of_length-le t h, add-zero)

  pub stop-here : p < length t → (get_or t p 0 ≡ x) ⊎ ((get_or t p 0 ≡ x → ⊥) × (get_or t p 0 ≡ y)) → stop_at x y t p ≡ p
  unfolding stop_at run
  stop-here h (inl e) = rw (step t p h, run, eq-eqb _ _ e) (add-zero p)
  stop-here h (inr e) = rw (step t p h, run, ne_eqb _ _ e.0, eq-eqb _ _ e.1) (add-zero p)

  pub stop_step : p < length t → (get_or t p 0 ≡ x → ⊥) → (get_or t p 0 ≡ y → ⊥) → stop_at x y t p ≡ stop_at x y t (p + 1)
  unfolding stop_at run
  stop_step h e f = rw (step t p h, run, ne_eqb _ _ e, ne_eqb _ _ f) (omega arith)

  pub stop-after : (e : ℕ) → e ≡ stop_at x y t p → p ≤ e
  unfolding stop_at
  stop-after e h = omega arith

  -- never past the end, unless p is
  pub stop-most : (e : ℕ) → e ≡ stop_at x y t p → e ≤ p + (length t - p)
  unfolding stop_at
  stop-most e h = omega (arith, run-most x y (drop p t), length-drop p t)

-- where a stop stands: from p on, and up to the end
pub ruleset stops = (stop-after, stop-most)

-- where the text has not ended, the byte looked for stands
run-found : (x : ℕ) (bs : Bytes) → run x x bs < length bs → get_or bs (run x x bs) 0 ≡ x
unfolding run
run-found x [] h = absurd (omega arith)
run-found x (b ∷ bs) h = go (eqb b x) refl (run-found x bs) h
  where
    go : (m : Bool) → eqb b x ≡ m → (run x x bs < length bs → get_or bs (run x x bs) 0 ≡ x) → run x x (b ∷ bs) < length (b ∷ bs) → get_or (b ∷ bs) (run x x (b ∷ bs)) 0 ≡ x
    go true e ih k = rw (run, e) (eqb-true b x e)
    go false e ih k = let l : suc (run x x bs) < suc (length bs) = rw (run, e, e) at k in rw (run, e, e) (ih (omega arith))

pub stop-found : (x : ℕ) (t : Bytes) (p e : ℕ) → e ≡ stop_at x x t p → e < length t → get_or t e 0 ≡ x
unfolding stop_at
stop-found x t p e h l = rw (h, ← get_or-drop p t (run x x (drop p t)) 0) (run-found x (drop p t) (rw (length-drop p t) (omega arith)))

-- a part by its length
pub part_none : (t : Bytes) (a n : ℕ) → length t ≤ a → take n (drop a t) ≡ []
part_none t a n h = rw (drop_of_length-le t h) (take-nil n)

pub part_length : (t : Bytes) (a n : ℕ) → n ≤ length t - a → length (take n (drop a t)) ≡ n
part_length t a n h = length-take-le n (drop a t) (rw (length-drop a t) h)
