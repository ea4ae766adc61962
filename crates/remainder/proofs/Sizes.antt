-- What the functions do, on floats that are sizes.
use mathlib.Core.Path.{◌≡◌, sym, ap, ◌∙◌, subst}
use mathlib.Core.Bool.{true, false}
use Prim.Native.Nat.{ℕ, suc, ◌+◌, ◌-◌, ◌*◌, ◌%◌, ◌^◌, ◌≤◌, ◌<◌}
use native.Mathlib.Nat.{mod-eq_of_lt, mod-lt, lt_of_not-le, lt_of_le_of_lt, le_antisymm}
use native.Mathlib.Omega.{arith}
use lib.Dec.{T}
use lib.Ieee.{Float, binary64, add, sub, mul, rem, lt, le, fits, of_bits}
use Rattle.remainder.specs.Steps.{steps, IsSize, IsDoubled}
use Rattle.remainder.proofs.Steps.{sized, counted, exact, itself, Is, Held, at}
use Rattle.remainder.proofs.Numbers.{less_held, twice_held, doubled_held, mod_under, mod_twice, doubled_half, doubled_ge}
use Rattle.remainder.proofs.Floats.{plus, less, lt_true, lt_false, le_true, le_false, rounded_le, halved, rem_at}

-- x is a size, of n steps
abbrev pub Size : Float → ℕ → Type 0
Size x n = IsSize x × (steps x ≡ n)

as_size : (x : Float) (n : ℕ) → Held n → x ≡ at n → Size x n
as_size x n h e = counted x n (subst (λ (z : Float). Is z n) (sym e) (exact n h))

module _ (x t : Float) (p : fits binary64 x ≡ true) (q : fits binary64 t ≡ true) (v : IsSize x) (w : IsSize t) where
  -- a difference below what is taken
  pub difference : le t x ≡ true → steps x < 2 * steps t → Size (sub binary64 x t) (steps x % steps t)
  difference h l =
      let a = sized x p v in
      let b = sized t q w in
      let o = le_true t x (steps t) (steps x) b.0 a.0 h in
      subst (λ (n : ℕ). Size (sub binary64 x t) n) (mod_under (steps x) (steps t) o l)
      (as_size (sub binary64 x t) (steps x - steps t) (less_held (steps x) (steps t) a.1 b.1 o l) (less x t (steps x) (steps t) o a.0 b.0))

  pub smaller : le t x ≡ false → steps x ≡ steps x % steps t
  smaller h = sym (mod-eq_of_lt (le_false t x (steps t) (steps x) (sized t q w).0 (sized x p v).0 h))

  -- whether t goes into x twice
  pub twice_in : steps t ≤ steps x → le t (sub binary64 x t) ≡ true → 2 * steps t ≤ steps x
  twice_in o h =
      let a = sized x p v in
      let b = sized t q w in
      native.Mathlib.Nat.le_of_suc-le-suc (lt_of_not-le (λ (l : suc (steps x) ≤ 2 * steps t).
      let d = exact (steps x - steps t) (less_held (steps x) (steps t) a.1 b.1 o l) in
      let e : le t (at (steps x - steps t)) ≡ true = ap (le t) (sym (less x t (steps x) (steps t) o a.0 b.0)) ∙ h in
      let g : steps t ≤ steps x - steps t = le_true t (at (steps x - steps t)) (steps t) (steps x - steps t) b.0 d e in
      omega arith))

  pub not_twice_in : steps t ≤ steps x → le t (sub binary64 x t) ≡ false → steps x < 2 * steps t
  not_twice_in o h =
      let a = sized x p v in
      let b = sized t q w in
      lt_of_not-le (λ (l : 2 * steps t ≤ steps x).
      let e = itself t (steps t) (subst T (sym q) tt) b.1 b.0 in
      let d = less x t (steps x) (steps t) o a.0 b.0 in
      let i : steps t ≤ steps x - steps t = omega arith in
      rounded_le (steps t) (steps x - steps t) i (sym (λ i. le (e i) (d i)) ∙ h))

  -- twice t, where it goes into x twice
  pub doubled : 2 * steps t ≤ steps x → Size (add binary64 t t) (steps t + steps t)
  doubled l =
      let a = sized x p v in
      let b = sized t q w in
      let i : steps t + steps t ≤ steps x = omega arith in
      as_size (add binary64 t t) (steps t + steps t) (twice_held (steps t) b.1 (lt_of_le_of_lt i a.1.4)) (plus t t (steps t) (steps t) b.0 b.0)

  pub below : lt x t ≡ true → steps x < steps t
  below h = lt_true x t (steps x) (steps t) (sized x p v).0 (sized t q w).0 h

  pub at_least : lt x t ≡ false → steps t ≤ steps x
  at_least h = lt_false x t (steps x) (steps t) (sized x p v).0 (sized t q w).0 h

  -- half of t, which is x doubled once at least
  pub half : IsDoubled (steps x) (steps t) → 0 < steps x → steps x < steps t
      → (c : ℕ) × (steps t ≡ c + c) × Size (mul binary64 t (of_bits binary64 0x3fe0_0000_0000_0000)) c × IsDoubled (steps x) c
  half d z l =
      let a = sized x p v in
      let b = sized t q w in
      let s = doubled_half (steps x) (steps t) d l in
      let c = s.0 in
      let some : 0 < c = native.Mathlib.Nat.lt_of_lt_of_le z (doubled_ge (steps x) c s.2) in
      let small : c < 2 ^ 2098 = lt_of_le_of_lt (let e = s.1 in omega arith) b.1.4 in
      let h : Held c = subst (λ (n : ℕ). Held n) (sym s.2.1) (doubled_held (steps x) s.2.0 a.1 (subst (λ (n : ℕ). n < 2 ^ 2098) s.2.1 small)) in
      (c, s.1, as_size (mul binary64 t (of_bits binary64 0x3fe0_0000_0000_0000)) c h (halved t c some (subst (λ (n : ℕ). Is t n) s.1 b.0)), s.2)

  -- what has the remainder's steps is the remainder
  pub is_remainder : (r : Float) → fits binary64 r ≡ true → IsSize r → 0 < steps t → steps r ≡ steps x % steps t → r ≡ rem binary64 x t
  is_remainder r f s z e =
      let k = sized r f s in
      itself r (steps r) (subst T (sym f) tt) k.1 k.0 ∙ ap at e ∙ sym (rem_at x t (steps x) (steps t) z (sized x p v).0 (sized t q w).0)

-- ---- the loops, on numbers of steps

pub some : (y t : ℕ) → IsDoubled y t → 0 < y → 0 < t
some y t d h = native.Mathlib.Nat.lt_of_lt_of_le h (doubled_ge y t d)

pub nearer : (x t a : ℕ) → 0 < t → 2 * t ≤ x → a ≡ t + t → x - a < x - t
nearer x t a h l e = omega arith

pub under : (r x t c : ℕ) → 0 < c → t ≡ c + c → r ≡ x % t → r < 2 * c
under r x t c h e f =
    let p : 0 < t = omega arith in
    let l : x % t < t = mod-lt x p in
    omega arith

pub kept_rest : (s r x t c : ℕ) → 0 < c → t ≡ c + c → r ≡ x % t → s ≡ r % c → s ≡ x % c
kept_rest s r x t c h e f g = g ∙ ap (λ (n : ℕ). n % c) (f ∙ ap (λ (n : ℕ). x % n) e) ∙ mod_twice x c h

pub last : (y t : ℕ) → IsDoubled y t → t ≤ y → t ≡ y
last y t d l = le_antisymm l (doubled_ge y t d)
