-- The remainder of what is not a number or not finite, and its sign.
use mathlib.Core.Path.{◌≡◌, refl, sym, ap, ◌∙◌, subst}
use mathlib.Core.Bool.{Bool, true, false, cond, true≢false}
use Prim.Native.Nat.{ℕ, zero, suc, ◌*◌, ◌%◌, ◌^◌, ◌<◌}
use native.Mathlib.Nat.{eq-zero-or-pos, mul-pos, lt_irrefl, zero-lt-suc}
use native.Mathlib.Omega.{arith}
use mathlib.Core.Logic.{inl, inr}
use lib.Dec.{eqb}
use lib.IntN.{ℤ, pos}
use lib.Pow.{pow_pos}
use borrow.Author.Tests.{eqb-true, eq-eqb}
use Rattle.std.specs.Cmp.{first_so}
use lib.Ieee.{Float, nan, inf, fin, binary64, up, down, round, rem, eq, is_nan, fits, of_bits}
use lib.Ieee.Fits.{up_pos}
use Rattle.std.specs.Float.{float_is_finite, float_with_sign, is_sign_negative}
use Rattle.remainder.specs.Steps.{steps, is_size, IsSize}
use Rattle.remainder.proofs.Steps.{sized}
use Rattle.core.proofs.num.FloatSigns.{signed_round}

nan_is : of_bits binary64 9221120237041090560 ≡ nan
unfolding of_bits
nan_is = refl

zero_is : of_bits binary64 0 ≡ fin false 0 (pos 0)
unfolding of_bits
zero_is = refl

pub not_finite : (x y : Float) → float_is_finite x ≡ false → of_bits binary64 9221120237041090560 ≡ rem binary64 x y
unfolding float_is_finite rem
not_finite nan y h = nan_is
not_finite (inf s) y h = nan_is
not_finite (fin s m e) y h = absurd (true≢false h)

pub by_nan : (x y : Float) → is_nan y ≡ true → of_bits binary64 9221120237041090560 ≡ rem binary64 x y
unfolding is_nan rem
by_nan nan y h = nan_is
by_nan (inf s) y h = nan_is
by_nan (fin s m e) nan h = nan_is
by_nan (fin s m e) (inf t) h = absurd (true≢false (sym h))
by_nan (fin s m e) (fin t n d) h = absurd (true≢false (sym h))

pub by_infinite : (x y : Float) → float_is_finite x ≡ true → is_nan y ≡ false → float_is_finite y ≡ false → x ≡ rem binary64 x y
unfolding float_is_finite is_nan rem
by_infinite nan y f n h = absurd (true≢false (sym f))
by_infinite (inf s) y f n h = absurd (true≢false (sym f))
by_infinite (fin s m e) nan f n h = absurd (true≢false n)
by_infinite (fin s m e) (inf t) f n h = refl
by_infinite (fin s m e) (fin t n d) f i h = absurd (true≢false h)

is_none : (n : ℕ) (d : ℤ) → n * up d * 1 ≡ 0 * 1 * down d → n ≡ 0
is_none n d h =
    elim (eq-zero-or-pos n) [
      | inl z ↦ z
      | inr p ↦ absurd (lt_irrefl 0 (subst (λ (k : ℕ). 0 < k) (h ∙ none) (mul-pos (mul-pos p (up_pos d)) (pow_pos 0))))
    ]
  where
    none : 0 * 1 * down d ≡ 0
    none = omega arith

pub by_zero : (x y : Float) → eq y (of_bits binary64 0) ≡ true → of_bits binary64 9221120237041090560 ≡ rem binary64 x y
unfolding eq rem
by_zero x y h = nan_is ∙ go x y (sym (ap (eq y) zero_is) ∙ h)
  where
    go : (x y : Float) → eq y (fin false 0 (pos 0)) ≡ true → nan ≡ rem binary64 x y
    go nan y h = refl
    go (inf s) y h = refl
    go (fin s m e) nan h = refl
    go (fin s m e) (inf t) h = absurd (true≢false (sym h))
    go (fin s m e) (fin t n d) h =
        ap (λ (k : Bool). cond k nan (round binary64 s (m * up e * down d % (n * up d * down e)) (down e * down d)))
        (sym (eq-eqb n 0 (is_none n d (eqb-true (n * up d * 1) (0 * 1 * down d) (first_so _ _ h)))))

pub size_of : (x r : Float) → float_is_finite x ≡ true → r ≡ float_with_sign false x → IsSize r
unfolding float_is_finite float_with_sign is_size
size_of x r h e = subst (λ (z : Float). IsSize z) (sym e) (go x h)
  where
    go : (x : Float) → float_is_finite x ≡ true → IsSize (float_with_sign false x)
    go nan h = absurd (true≢false (sym h))
    go (inf s) h = absurd (true≢false (sym h))
    go (fin s m e) h = tt

-- zero is equal to zero, whatever its sign
level : (t : Bool) (d : ℤ) → eq (fin t 0 d) (fin false 0 (pos 0)) ≡ true
unfolding eq
level true d = let a : 0 * up d * 1 ≡ 0 = omega arith in let b : 0 * 1 * down d ≡ 0 = omega arith in rw (a, b) refl
level false d = let a : 0 * up d * 1 ≡ 0 = omega arith in let b : 0 * 1 * down d ≡ 0 = omega arith in rw (a, b) refl

counts : (n : ℕ) (d : ℤ) (k : ℕ) → suc n * up d * 2 ^ 1074 ≡ k * down d → 0 < k
counts n d k h =
    elim (eq-zero-or-pos k) [
      | inl z ↦ absurd (lt_irrefl 0 (subst (λ (j : ℕ). 0 < j) (h ∙ ap (λ (j : ℕ). j * down d) z ∙ native.Mathlib.Nat.zero-mul (down d)) (mul-pos (mul-pos (zero-lt-suc n) (up_pos d)) (pow_pos 1074))))
      | inr p ↦ p
    ]

pub some_of : (y r : Float) → float_is_finite y ≡ true → eq y (of_bits binary64 0) ≡ false → fits binary64 r ≡ true → r ≡ float_with_sign false y → 0 < steps r
unfolding float_is_finite float_with_sign
some_of y r h z f e = subst (λ (k : Float). 0 < steps k) (sym e) (go y h (sym (ap (eq y) zero_is) ∙ z) (sym (ap (fits binary64) e) ∙ f))
  where
    go : (y : Float) → float_is_finite y ≡ true → eq y (fin false 0 (pos 0)) ≡ false → fits binary64 (float_with_sign false y) ≡ true → 0 < steps (float_with_sign false y)
    go nan h z f = absurd (true≢false (sym h))
    go (inf s) h z f = absurd (true≢false (sym h))
    go (fin s zero d) h z f = absurd (true≢false (sym (level s d) ∙ z))
    go (fin s (suc n) d) h z f = counts n d (steps (fin false (suc n) d)) (sized (fin false (suc n) d) f (unfold is_size in tt)).0.1

pub signed : (x y : Float) → float_is_finite x ≡ true → float_is_finite y ≡ true
    → float_with_sign (is_sign_negative x) (rem binary64 (float_with_sign false x) (float_with_sign false y)) ≡ rem binary64 x y
unfolding float_is_finite float_with_sign is_sign_negative rem
signed nan y f g = absurd (true≢false (sym f))
signed (inf s) y f g = absurd (true≢false (sym f))
signed (fin s m e) nan f g = absurd (true≢false (sym g))
signed (fin s m e) (inf t) f g = absurd (true≢false (sym g))
signed (fin s m e) (fin t n d) f g = go (eqb n 0)
  where
    go : (b : Bool) → float_with_sign s (cond b nan (round binary64 false (m * up e * down d % (n * up d * down e)) (down e * down d)))
        ≡ cond b nan (round binary64 s (m * up e * down d % (n * up d * down e)) (down e * down d))
    go true = refl
    go false = signed_round binary64 s (m * up e * down d % (n * up d * down e)) (down e * down d)
