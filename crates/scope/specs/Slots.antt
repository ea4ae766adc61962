-- The slots of labels: labels whose tables are among the scope's, and labels behind the tables of another scope.
use Prim.Native.Nat.{ℕ, zero, suc, ◌+◌, ◌-◌, ◌*◌, ◌≤◌, ◌<◌}
use native.Mathlib.Omega.{arith}
use Rattle.std.specs.Prelude.{◌≡◌, Bool, true, false, ltb, get_or, take, drop}
use Rattle.std.proofs.Math.Path.{refl}
use mathlib.Core.List.{List, [], ◌∷◌, ◌++◌, map}
use Rattle.std.proofs.Math.ListN.{length, get_or-append}
use Rattle.std.proofs.Math.Seq.{get_or-append-add}
use Rattle.std.proofs.Common.{lt-ltb, le-ltb, ltb-true, ltb-false}
use Rattle.rules.specs.Lists.{Bytes}
use Rattle.scope.specs.Labels.{slot_unit, slot_of, address_of, length_of, name_at, label_at, columns_of}
use Rattle.scope.specs.Labels.{label-in, label-free}

-- labels whose tables are among the first t
pub data Below (t : ℕ) : List ℕ → Type 0 where
  none : Below t []
  more : {x : ℕ} {xs : List ℕ} → slot_of x ≤ t → Below t xs → Below t (x ∷ xs)

-- a label behind t tables more
unfoldable pub shifted : ℕ → ℕ → ℕ
shifted t x = elim (ltb x slot_unit) [ true ↦ x | false ↦ x + t * slot_unit ]

pub shifted-free : (t x : ℕ) → x < slot_unit → shifted t x ≡ x
unfolding shifted
shifted-free t x h = rw (shifted, lt-ltb _ _ h)

pub shifted-slot : (t x : ℕ) → slot_unit ≤ x → shifted t x ≡ x + t * slot_unit
unfolding shifted
shifted-slot t x h = rw (shifted, le-ltb _ _ h)

by-slot : {A : Type 0} (x : ℕ) → (x < slot_unit → A) → (slot_unit ≤ x → A) → A
by-slot {A} x f g = go (ltb x slot_unit) refl
  where
    go : (b : Bool) → ltb x slot_unit ≡ b → A
    go true e = f (ltb-true _ _ e)
    go false e = g (ltb-false _ _ e)

module _ (c q : Bytes) (ts us : List ℕ) where
  behind : (x : ℕ) → slot_unit ≤ x → label_at c q (ts ++ us) (x + length ts * slot_unit) ≡ label_at c q us x
  unfolding name_at
  behind x h =
      let k : slot_of (x + length ts * slot_unit) ≡ suc (length ts + (slot_of x - 1)) = omega arith in
      let j : slot_of x ≡ suc (slot_of x - 1) = omega arith in
      let a : address_of (x + length ts * slot_unit) ≡ address_of x = omega arith in
      let l : length_of (x + length ts * slot_unit) ≡ length_of x = omega arith in
      rw (label-in c q (ts ++ us) _ _ k, label-in c q us x _ j, get_or-append-add ts us (slot_of x - 1) 0, a, l)

  there : (x : ℕ) → slot_unit ≤ x → slot_of x ≤ length ts → label_at c q (ts ++ us) x ≡ label_at c q ts x
  there x h g =
      let j : slot_of x ≡ suc (slot_of x - 1) = omega arith in
      let k : slot_of x - 1 < length ts = omega arith in
      rw (label-in c q (ts ++ us) x _ j, label-in c q ts x _ j, get_or-append ts us 0 (slot_of x - 1) k)

  -- the other scope's labels, shifted, are the same behind the tables ts
  shifted-label : (x : ℕ) → label_at c q (ts ++ us) (shifted (length ts) x) ≡ label_at c q us x
  shifted-label x = by-slot x
      (λ h. rw (shifted-free (length ts) x h) (label-free c q _ _ x (omega arith)))
      (λ h. rw (shifted-slot (length ts) x h) (behind x h))

  pub shifted-columns : (xs : List ℕ) → columns_of c q (ts ++ us) (map (shifted (length ts)) xs) ≡ columns_of c q us xs
  unfolding columns_of
  shifted-columns [] = refl
  shifted-columns (x ∷ xs) = rw (shifted-label x, shifted-columns xs)

  -- and one's own stay
  kept_label : (x : ℕ) → slot_of x ≤ length ts → label_at c q (ts ++ us) x ≡ label_at c q ts x
  kept_label x g = by-slot x (λ h. label-free c q _ _ x (omega arith)) (λ h. there x h g)

  pub kept-columns : {xs : List ℕ} → Below (length ts) xs → columns_of c q (ts ++ us) xs ≡ columns_of c q ts xs
  unfolding columns_of
  kept-columns none = refl
  kept-columns (more {x} {xs} h b) = rw (kept_label x h, kept-columns b)

-- LABELS BELOW
pub below-append : {t : ℕ} {xs ys : List ℕ} → Below t xs → Below t ys → Below t (xs ++ ys)
below-append none g = g
below-append (more h b) g = more h (below-append b g)

pub below_wider : {t u : ℕ} {xs : List ℕ} → t ≤ u → Below t xs → Below u xs
below_wider l none = none
below_wider l (more {x} h b) = more {x = x} (omega arith) (below_wider l b)

pub below-shifted : {u : ℕ} {xs : List ℕ} (t : ℕ) → Below u xs → Below (t + u) (map (shifted t) xs)
below-shifted t none = none
below-shifted t (more {x} h b) = more {x = shifted t x} (by-slot x
    (λ l. rw (shifted-free t x l) (omega arith))
    (λ l. rw (shifted-slot t x l) (omega arith))) (below-shifted t b)

pub below_at : {t : ℕ} {xs : List ℕ} (k : ℕ) → Below t xs → slot_of (get_or xs k 0) ≤ t
below_at k none = omega arith
below_at zero (more h b) = h
below_at (suc k) (more h b) = below_at k b

pub below_one : {t x : ℕ} → slot_of x ≤ t → Below t (x ∷ [])
below_one {t} {x} h = more {x = x} h none

pub below-take : {t : ℕ} {xs : List ℕ} (k : ℕ) → Below t xs → Below t (take k xs)
below-take zero b = none
below-take (suc k) none = none
below-take (suc k) (more h b) = more h (below-take k b)

pub below-drop : {t : ℕ} {xs : List ℕ} (k : ℕ) → Below t xs → Below t (drop k xs)
below-drop zero b = b
below-drop (suc k) none = none
below-drop (suc k) (more h b) = below-drop k b
