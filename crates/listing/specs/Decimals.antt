-- The digits of numbers, integers and floats: those of the crate io are the rules'.
use Rattle.std.specs.Prelude.{ℕ, zero, suc, ◌+◌, ◌*◌, ◌-◌, ◌/◌, ◌%◌, ◌^◌, ◌≤◌, ◌<◌, ◌≡◌, refl, Bool, true, false, [], ◌∷◌, ◌++◌, leb, ltb}
use Rattle.std.proofs.Common.{arith, pow-suc, mod-lt, mod-eq_of_lt, le-div_iff_mul-le, div-lt_iff_lt-mul, sym, ap, ◌∙◌, append_assoc, append-nil, leb-true, leb-false, lt-ltb, le-ltb}
use Rattle.std.proofs.Math.Nat.{one-le-pow, pow-le-pow_right}
use Rattle.io.specs.Digits.{hex_digit_ascii, last_digits, IsDigitCount}
use Rattle.rules.specs.Lists.{Bytes}
use Rattle.rules.specs.Print.{digits_of, decimal_of, integer_of, hex_of}
use Rattle.numbers.specs.Bits.{signed}

small : (n : ℕ) → n < 10 → hex_digit_ascii n ≡ 48 + n
small n h = rw (lt-ltb n 10 h)

spelled : (k f n : ℕ) (r : Bytes) → k < f → n < 10 ^ suc k → (1 ≤ k → 10 ^ k ≤ n) → digits_of f n r ≡ last_digits 10 (suc k) n ++ r
unfolding digits_of
spelled zero zero n r h g l = absurd (omega arith)
spelled (suc k) zero n r h g l = absurd (omega arith)
spelled zero (suc f) n r h g l =
    let x : n < 10 = g in
    rw (digits_of, lt-ltb n 10 x, mod-eq_of_lt x, small n x)
spelled (suc k) (suc f) n r h g l =
    let x : 10 ^ suc k ≤ n = l (omega arith) in
    let y : 10 ^ k * 10 ≤ n = (rw (pow-suc 10 k) at x) in
    let o : 1 ≤ 10 ^ k = one-le-pow k 10 (omega arith) in
    let w : n < 10 ^ suc k * 10 = (rw (pow-suc 10 (suc k)) at g) in
    rw (digits_of, le-ltb n 10 (omega arith), small (n % 10) (mod-lt n (omega arith)))
    (spelled k f (n / 10) ((48 + n % 10) ∷ r) (omega arith) ((div-lt_iff_lt-mul (omega arith)).1 w) (λ z. (le-div_iff_mul-le (omega arith)).1 y) ∙ sym (append_assoc (last_digits 10 (suc k) (n / 10)) ((48 + n % 10) ∷ []) r))

decimal-digits : (n k : ℕ) → IsDigitCount 10 1 n k → k ≤ 20 → last_digits 10 k n ≡ decimal_of n
unfolding decimal_of
decimal-digits n zero h l = absurd (omega (arith, h.0))
decimal-digits n (suc k) h l =
    let z : suc k - 1 ≡ k = omega arith in
    sym (spelled k 20 n [] (omega arith) h.1 (λ y. rw z at (h.2 (omega arith))) ∙ append-nil (last_digits 10 (suc k) n))

-- a number of 64 bits has twenty digits at most
few-digits : (n k : ℕ) → IsDigitCount 10 1 n k → n < 2 ^ 64 → k ≤ 20
few-digits n k h g = go (leb k 20) refl
  where
    go : (b : Bool) → leb k 20 ≡ b → k ≤ 20
    go true e = leb-true k 20 e
    go false e =
        let l : 20 < k = leb-false k 20 e in
        let x : 10 ^ 20 ≤ 10 ^ (k - 1) = pow-le-pow_right (omega arith) {i = 20} {j = k - 1} (omega arith) in
        let y : 10 ^ (k - 1) ≤ n = h.2 (omega arith) in
        let z : 100000000000000000000 ≤ 10 ^ (k - 1) = x in
        absurd (omega arith)

pub decimal-of : (n k : ℕ) (b : Bytes) → IsDigitCount 10 1 n k → n < 2 ^ 64 → b ≡ last_digits 10 k n → b ≡ decimal_of n
decimal-of n k b h l e = e ∙ decimal-digits n k h (few-digits n k h l)

-- SIXTEEN HEXADECIMAL DIGITS
hex-digits : (k n : ℕ) (r : Bytes) → hex_of k n r ≡ last_digits 16 k n ++ r
unfolding hex_of
hex-digits zero n r = refl
hex-digits (suc k) n r = go (ltb (n % 16) 10) refl (λ x. hex-digits k (n / 16) (x ∷ r))
  where
    go : (b : Bool) → ltb (n % 16) 10 ≡ b → ((x : ℕ) → hex_of k (n / 16) (x ∷ r) ≡ last_digits 16 k (n / 16) ++ (x ∷ r))
        → hex_of (suc k) n r ≡ last_digits 16 (suc k) n ++ r
    go true e h = rw (hex_of, e) (h (48 + n % 16) ∙ sym (append_assoc (last_digits 16 k (n / 16)) ((48 + n % 16) ∷ []) r))
    go false e h = rw (hex_of, e) (h (87 + n % 16) ∙ sym (append_assoc (last_digits 16 k (n / 16)) ((87 + n % 16) ∷ []) r))

sixteen : (n k : ℕ) → IsDigitCount 16 16 n k → n < 2 ^ 64 → k ≡ 16
sixteen n k h g = go (leb k 16) refl
  where
    go : (b : Bool) → leb k 16 ≡ b → k ≡ 16
    go true e = omega (arith, leb-true k 16 e, h.0)
    go false e =
        let l : 16 < k = leb-false k 16 e in
        let x : 16 ^ 16 ≤ 16 ^ (k - 1) = pow-le-pow_right (omega arith) {i = 16} {j = k - 1} (omega arith) in
        let y : 16 ^ (k - 1) ≤ n = h.2 l in
        let z : 18446744073709551616 ≤ 16 ^ (k - 1) = x in
        absurd (omega arith)

pub hex-of : (n k : ℕ) (b : Bytes) → IsDigitCount 16 16 n k → n < 2 ^ 64 → b ≡ last_digits 16 k n → b ≡ hex_of 16 n []
hex-of n k b h l e =
    e ∙ ap (λ j. last_digits 16 j n) (sixteen n k h l) ∙ sym (hex-digits 16 n [] ∙ append-nil (last_digits 16 16 n))

-- AN INTEGER from its 64 bits
pub integer-below : (n : ℕ) → n < 2 ^ 63 → integer_of (signed n) ≡ decimal_of n
unfolding signed integer_of
integer-below n h = rw (signed, lt-ltb n (2 ^ 63) h)

pub integer-above : (n : ℕ) → 2 ^ 63 ≤ n → n < 2 ^ 64 → integer_of (signed n) ≡ 45 ∷ decimal_of (2 ^ 64 - 1 - n + 1)
unfolding signed integer_of
integer-above n h l =
    let e : suc (2 ^ 64 - suc n) ≡ 2 ^ 64 - 1 - n + 1 = omega arith in
    rw (signed, le-ltb n (2 ^ 63) h, e)
