-- Floats in text, by their hexadecimal digits.
use Rattle.std.specs.Prelude.{◌≡◌, ◌⊎◌, ℕ, ◌+◌, ◌-◌, ◌*◌, ◌^◌, ◌<◌, ◌≤◌, length, drop, ◌≢◌, slice_index}
use native.Mathlib.Omega.{arith}
use Rattle.std.proofs.Common.{inl, inr, pow-suc, add-one, drop_of_length-le}
use Rattle.std.proofs.Math.Nat.{pow-le-pow_right}
use Rattle.std.proofs.Math.Decide.{dec_lt}
use Rattle.std.proofs.Math.Option.{none, some}
use borrow.Author.Tests.{le-leb, lt-leb, ne_eqb}
use Rattle.rules.specs.Lists.{Bytes}
use Rattle.rules.specs.Lines.{digit, hex_digit, hex_digits, float}
use Rattle.text.specs.Bytes.{step}

-- DIGITS
module _ (b : ℕ) where
  pub hex-digit : 48 ≤ b → b ≤ 57 → some (b - 48) ≡ hex_digit b
  unfolding hex_digit digit
  hex-digit h g = let l : b < 97 = omega arith in rw (hex_digit, lt-leb 97 b l, digit, le-leb 48 b h, le-leb b 57 g)

  pub hex-letter : 97 ≤ b → b ≤ 102 → some (b - 97 + 10) ≡ hex_digit b
  unfolding hex_digit
  hex-letter h g = let k : b - 97 + 10 ≡ b - 87 = omega arith in rw (hex_digit, le-leb 97 b h, le-leb b 102 g, k)

  pub hex-other : (b < 48) ⊎ (57 < b) → (b < 97) ⊎ (102 < b) → none ≡ hex_digit b
  unfolding hex_digit digit
  hex-other (inl h) g = let l : b < 97 = omega arith in rw (hex_digit, lt-leb 97 b l, digit, lt-leb 48 b h)
  hex-other (inr h) (inl g) = let m : 48 ≤ b = omega arith in rw (hex_digit, lt-leb 97 b g, digit, le-leb 48 b m, lt-leb b 57 h)
  hex-other (inr h) (inr g) =
      let k : 97 ≤ b = omega arith in
      let l : 48 ≤ b = omega arith in
      let m : 57 < b = omega arith in
      rw (hex_digit, le-leb 97 b k, lt-leb b 102 g, digit, le-leb 48 b l, lt-leb b 57 m)

-- THE LOOP OVER THE DIGITS
pub float-length : (x : Bytes) → (length x ≢ 16) → float x ≡ none
unfolding float
float-length x h = rw (float, ne_eqb (length x) 16 h)

pub float-digits : (x : Bytes) → length x ≡ 16 → float x ≡ hex_digits 0 x
unfolding float
float-digits x h = rw (float, h)

-- sixteen digits fit 64 bits
pub room : (v i d : ℕ) → v < 16 ^ i → i < 16 → d ≤ 15 → v * 16 + d < 2 ^ 64
room v i d h l m =
    let i≤ : i ≤ 15 = omega arith in
    let p : 16 ^ i ≤ 1152921504606846976 = pow-le-pow_right (omega arith) i≤ in
    omega arith

pub power-step : (v i d : ℕ) → v < 16 ^ i → d ≤ 15 → v * 16 + d < 16 ^ (i + 1)
power-step v i d h m = rw (add-one i, pow-suc) (omega arith)

module _ (v : ℕ) (x : Bytes) (i : ℕ) (l : i < length x) where
  pub hex-wrong : none ≡ hex_digit (slice_index x i) → hex_digits v (drop i x) ≡ none
  unfolding hex_digits
  hex-wrong e = rw (step x i l, hex_digits, ← e)

  pub hex-step : (d : ℕ) → some d ≡ hex_digit (slice_index x i) → hex_digits (v * 16 + d) (drop (i + 1) x) ≡ hex_digits v (drop i x)
  unfolding hex_digits
  hex-step d e = rw (step x i l, hex_digits, ← e)

pub hex-end : (v : ℕ) (x : Bytes) (i : ℕ) → length x ≤ i → hex_digits v (drop i x) ≡ some v
unfolding hex_digits
hex-end v x i h = rw (drop_of_length-le x h)

-- a digit's value is below 16
pub hex-small : (b d : ℕ) → some d ≡ hex_digit b → d ≤ 15
hex-small b d e = elim (dec_lt b 97) [ yes p ↦ plain (omega (arith, p)) | no p ↦ letter (omega (arith, p)) ]
  where
    out : none ≡ hex_digit b → d ≤ 15
    out f = absurd (cc (e, f))

    plain : b < 97 → d ≤ 15
    plain p = elim (dec_lt b 48) [
      | yes q ↦ out (hex-other b (inl (omega (arith, q))) (inl p))
      | no q ↦ elim (dec_lt 57 b) [
        | yes r ↦ out (hex-other b (inr (omega (arith, r))) (inl p))
        | no r ↦ let k : d ≡ b - 48 = cc (e, hex-digit b (omega (arith, q)) (omega (arith, r))) in omega (arith, r)
      ]
    ]

    letter : 97 ≤ b → d ≤ 15
    letter p = elim (dec_lt 102 b) [
      | yes q ↦ out (hex-other b (inr (omega arith)) (inr (omega (arith, q))))
      | no q ↦ let k : d ≡ b - 97 + 10 = cc (e, hex-letter b p (omega (arith, q))) in omega (arith, q)
    ]
