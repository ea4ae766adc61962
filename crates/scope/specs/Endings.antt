-- Labels passed over by the last byte of their names.
use Prim.Native.Nat.{ℕ, suc, ◌+◌, ◌-◌, ◌≤◌, ◌<◌, min}
use native.Mathlib.Omega.{arith}
use Rattle.std.proofs.Math.Path.{◌≡◌, refl, sym, ap}
use Rattle.std.proofs.Common.{◌∙◌, length-take, length-drop, get_or-take, get_or-drop}
use Rattle.std.specs.Prelude.{Bool, ◌||◌, length, get_or, drop}
use Rattle.std.proofs.Math.Bool.{true, false}
use mathlib.Core.List.{List, [], ◌∷◌}
use mathlib.Core.Logic.{◌⊎◌, ⊎_elim}
use Rattle.std.proofs.Math.Dec.{eqb, ltb}
use borrow.Author.Tests.{ltb-true, ltb-false, eqb-true, eqb-false, lt-ltb, le-ltb, eq-eqb, ne_eqb}
use Rattle.rules.specs.Limits.{most_bytes}
use Rattle.rules.specs.Lists.{Bytes}
use Rattle.rules.specs.Lines.{Word}
use Rattle.rules.specs.Places.{bytes_at, word_at}
use Rattle.rules.specs.Equality.{same_name}
use Rattle.rules.specs.Scope.{is_named, is_qualified}
use Rattle.text.specs.Places.{bytes-catalog, bytes-statement}
use Rattle.text.specs.Order.{differ}
use Rattle.scope.specs.Labels.{slot_of, address_of, length_of, name_at, label_at}
use Rattle.scope.specs.Names.{named_none, named_some, qualified-none, qualified-other}
use Rattle.scope.specs.declared.endings.Ending.{Ending}

-- ENDINGS
-- the end of a label's name
abbrev pub end_of : ℕ → ℕ
end_of x = address_of x + length_of x

-- a name's last byte, and where the catalog's addresses end; of an empty name no byte and no address
unfoldable pub ending_of : Bytes → Bytes → Ending
ending_of c [] = record { limit = 0; last = 0 }
ending_of c (y ∷ ys) = record { limit = min (length c) most_bytes; last = get_or (y ∷ ys) (length ys) 0 }

-- whether a label may have a name of an ending: its name may end elsewhere, or has that last byte
unfoldable pub may_end : Bytes → Ending → ℕ → Bool
may_end c e x = ltb e.limit (end_of x) || (eqb (end_of x) 0 || eqb (get_or c (end_of x - 1) 0) e.last)

pub ending-none : (c n : Bytes) → length n ≡ 0 → ending_of c n ≡ record { limit = 0; last = 0 }
unfolding ending_of
ending-none c [] h = refl
ending-none c (y ∷ ys) h = absurd (omega (arith, h))

pub ending-some : (c n : Bytes) → (length n ≡ 0 → ⊥)
    → ending_of c n ≡ record { limit = min (length c) most_bytes; last = get_or n (length n - 1) 0 }
unfolding ending_of
ending-some c [] h = absurd (h refl)
ending-some c (y ∷ ys) h = let z : suc (length ys) - 1 ≡ length ys = omega arith in rw z

limit-within : (c n : Bytes) → (ending_of c n).limit ≤ length c
unfolding ending_of
limit-within c [] = omega arith
limit-within c (y ∷ ys) = omega arith

pub ending-within : (c n : Bytes) {e : Ending} → e ≡ ending_of c n → e.limit ≤ length c
ending-within c n h = rw h (limit-within c n)

-- a label's test, by its name's address and length
module _ (c : Bytes) (e : Ending) (x : ℕ) {a n : ℕ} (ea : a ≡ address_of x) (en : n ≡ length_of x) where
  pub may-elsewhere : (e.limit < a + n) ⊎ ((a + n ≤ e.limit) × (a + n ≡ 0)) → true ≡ may_end c e x
  unfolding may_end
  may-elsewhere h = ⊎_elim (λ g. rw (may_end, ← ea, ← en, lt-ltb e.limit (a + n) g))
      (λ g. rw (may_end, ← ea, ← en, le-ltb e.limit (a + n) g.0, eq-eqb (a + n) 0 g.1)) h

  pub may_here : a + n ≤ e.limit → (a + n ≡ 0 → ⊥) → eqb (get_or c (a + n - 1) 0) e.last ≡ may_end c e x
  unfolding may_end
  may_here h z = rw (may_end, ← ea, ← en, le-ltb e.limit (a + n) h, ne_eqb (a + n) 0 z)

module _ (c : Bytes) (e : Ending) (x : ℕ) where
  -- why a label is passed over
  record Passed : Type 0 where
    pub within : end_of x ≤ e.limit
    pub some : end_of x ≡ 0 → ⊥
    pub other : get_or c (end_of x - 1) 0 ≡ e.last → ⊥

  passed : may_end c e x ≡ false → Passed
  unfolding may_end
  passed = go (ltb e.limit (end_of x)) (eqb (end_of x) 0) (eqb (get_or c (end_of x - 1) 0) e.last) refl refl refl
    where
      go : (a b d : Bool) → ltb e.limit (end_of x) ≡ a → eqb (end_of x) 0 ≡ b
          → eqb (get_or c (end_of x - 1) 0) e.last ≡ d → (a || (b || d)) ≡ false → Passed
      go true b d ea eb ed h = grind arith
      go false true d ea eb ed h = grind arith
      go false false true ea eb ed h = grind arith
      go false false false ea eb ed h =
          record { within = ltb-false _ _ ea; some = eqb-false _ _ eb; other = eqb-false _ _ ed }

-- THE NAMES OF LABELS
-- the last byte of a name that stands in the catalog
module _ (c q : Bytes) (a n : ℕ) (h : a + n ≤ min (length c) most_bytes) (p : 0 < n) where
  place-length : length (bytes_at c q a n) ≡ n
  place-length = rw (bytes-catalog c q a n (omega arith)) (omega (arith, length-take n (drop a c), length-drop a c))

  place-last : get_or (bytes_at c q a n) (n - 1) 0 ≡ get_or c (a + n - 1) 0
  place-last =
      let z : a + (n - 1) ≡ a + n - 1 = omega arith in
      rw (bytes-catalog c q a n (omega arith), get_or-take n (drop a c) (n - 1) 0 (omega arith), get_or-drop a c, z)

no_bytes : (c q : Bytes) (a n : ℕ) → n ≡ 0 → length (bytes_at c q a n) ≡ 0
no_bytes c q a n h = go (ltb a most_bytes) refl
  where
    go : (b : Bool) → ltb a most_bytes ≡ b → length (bytes_at c q a n) ≡ 0
    go true e = rw (bytes-catalog c q a n (ltb-true _ _ e)) (omega (arith, length-take n (drop a c)))
    go false e =
        rw (bytes-statement c q a n (ltb-false _ _ e)) (omega (arith, length-take n (drop (a - most_bytes) q)))

-- a label that is passed over has another name
module _ (c q : Bytes) (x : ℕ) (n : Bytes) (p : Passed c (ending_of c n) x) where
  some-name : length n ≡ 0 → ⊥
  some-name z =
      let y : (ending_of c n).limit ≡ 0 = ap (λ (e : Ending). e.limit) (ending-none c n z) in
      p.some (omega (arith, p.within))

  other-bytes : bytes_at c q (address_of x) (length_of x) ≡ n → ⊥
  other-bytes e = go (eqb (length_of x) 0) refl
    where
      go : (b : Bool) → eqb (length_of x) 0 ≡ b → ⊥
      go true k = some-name (ap length (sym e) ∙ no_bytes c q (address_of x) (length_of x) (eqb-true _ _ k))
      go false k =
          let d = ending-some c n some-name in
          let y : 0 < length_of x = omega (arith, eqb-false (length_of x) 0 k) in
          let h : end_of x ≤ min (length c) most_bytes = rw (ap (λ (e : Ending). e.limit) d) at p.within in
          let l : length n ≡ length_of x = ap length (sym e) ∙ place-length c q (address_of x) (length_of x) h y in
          p.other (sym (place-last c q (address_of x) (length_of x) h y)
          ∙ rw (e, ← l) (sym (ap (λ (e : Ending). e.last) d)))

  other_name : (w : Word) → w.bytes ≡ n → same_name (name_at c q x) w ≡ false
  unfolding same_name name_at word_at
  other_name w e = differ _ _ (λ z. other-bytes (z ∙ e))

module _ (c q : Bytes) (ts : List ℕ) (w : Word) (n : Bytes) (e : w.bytes ≡ n) (x : ℕ) {d : Ending}
    (f : d ≡ ending_of c n) (g : may_end c d x ≡ false) where
  other-ending : may_end c (ending_of c n) x ≡ false
  other-ending = rw f at g

  pub passed-named : is_named w (label_at c q ts x) ≡ false
  passed-named = go (eqb x 0) refl
    where
      go : (b : Bool) → eqb x 0 ≡ b → is_named w (label_at c q ts x) ≡ false
      go true z = named_none c q ts x w (eqb-true _ _ z)
      go false z =
          named_some c q ts x w (eqb-false _ _ z) ∙ other_name c q x n (passed c (ending_of c n) x other-ending) w e

  pub passed-qualified : (v : Word) → is_qualified v w (label_at c q ts x) ≡ false
  passed-qualified v = go (eqb (slot_of x) 0) refl
    where
      go : (b : Bool) → eqb (slot_of x) 0 ≡ b → is_qualified v w (label_at c q ts x) ≡ false
      go true z = qualified-none c q ts x w v (eqb-true _ _ z)
      go false z =
          qualified-other c q ts x w v _ (eqb-false _ _ z) refl
          (other_name c q x n (passed c (ending_of c n) x other-ending) w e)
