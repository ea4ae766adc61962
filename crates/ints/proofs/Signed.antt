-- What the machine reads back of a signed number of 64 bits.
use mathlib.Core.Bool.{true, false, false≢true}
use mathlib.Core.Path.{◌≡◌, refl, sym, ap, ◌∙◌, subst, subst⁻¹}
use native.Mathlib.Omega.{arith}
use Prim.Native.Nat.{ℕ, ◌<◌, ◌^◌, zero-le}
use lib.IntN.{ℤ, pos, negsuc, nat_abs}
use lib.Signed.{mag, lt_z}
use borrow.Author.Tests.{le-ltb}
use mir.Syntax.{w64}
use mir.Val.{SFits, to_z, of_z}
use mir.ValLaws.{to_z-of_z}
use Rattle.std.specs.Int.{FitsUnsignedBits}
use Rattle.rules.specs.Area.{bits}

abbrev pub stored : ℤ → ℤ
stored x = to_z w64 (of_z w64 x)

pub read : (x : ℤ) → SFits w64 x → stored x ≡ x
read x f = to_z-of_z w64 x f

pub read-mag : (x : ℤ) → mag x < 2 ^ 63 → stored x ≡ x
read-mag x h = read x (record { sfits = h })

pub bits-of : (z : ℤ) → of_z w64 z ≡ bits z
unfolding bits
bits-of (pos n) = refl
bits-of (negsuc n) = refl

pub stored-fits : (x : ℤ) → mag x < 2 ^ 63 → SFits w64 (stored x)
stored-fits x h = subst⁻¹ (SFits w64) (read-mag x h) (record { sfits = h })

-- an integer below 0, and one from 0 on
module _ (x : ℤ) (f : SFits w64 x) where
  pub below : lt_z (stored x) (pos 0) ≡ true → (P : ℤ → Type 0) → ((n : ℕ) → P (negsuc n)) → P x
  below e P k = go x (sym (ap (λ (z : ℤ). lt_z z (pos 0)) (read x f)) ∙ e)
    where
      go : (x : ℤ) → lt_z x (pos 0) ≡ true → P x
      go (pos n) e = absurd (false≢true (sym (le-ltb n 0 zero-le) ∙ e))
      go (negsuc n) e = k n

  pub from : lt_z (stored x) (pos 0) ≡ false → pos (nat_abs (stored x)) ≡ x
  from e = ap (λ (z : ℤ). pos (nat_abs z)) (read x f) ∙ go x (sym (ap (λ (z : ℤ). lt_z z (pos 0)) (read x f)) ∙ e)
    where
      go : (x : ℤ) → lt_z x (pos 0) ≡ false → pos (nat_abs x) ≡ x
      go (pos n) e = refl
      go (negsuc n) e = absurd (false≢true (sym e))

  -- what a conversion to a number with no sign says
  pub unconverted : (FitsUnsignedBits 64 (stored x) → ⊥) → (P : ℤ → Type 0) → ((n : ℕ) → P (negsuc n)) → P x
  unconverted h P k = go x (λ g. h (subst⁻¹ (FitsUnsignedBits 64) (read x f) g)) f
    where
      go : (x : ℤ) → (FitsUnsignedBits 64 x → ⊥) → SFits w64 x → P x
      go (pos n) h f = let l : mag (pos n) < 2 ^ 63 = f.sfits in absurd (h (omega (arith, l)))
      go (negsuc n) h f = k n

  pub converted : (n : ℕ) → FitsUnsignedBits 64 (stored x) → n ≡ nat_abs (stored x) → x ≡ pos n
  converted n h e = go x (subst (FitsUnsignedBits 64) (read x f) h) (e ∙ ap nat_abs (read x f))
    where
      go : (x : ℤ) → FitsUnsignedBits 64 x → n ≡ nat_abs x → x ≡ pos n
      go (pos m) h e = ap pos (sym e)
      go (negsuc m) h e = absurd h
