-- 64 bits by their two halves, and the integer that they are in two's complement.
use Rattle.std.specs.Prelude.{ℕ, suc, ◌+◌, ◌*◌, ◌-◌, ◌/◌, ◌%◌, ◌^◌, ◌≤◌, ◌<◌, ◌≡◌, true, false, [], ◌∷◌, ltb, ℤ, pos, negsuc}
use Rattle.std.proofs.Common.{arith, lt-ltb, le-ltb}
use Rattle.std.proofs.Math.Decide.{dec_lt}
use Rattle.std.specs.Int.Signed.{mag}
use Rattle.rules.specs.Area.{halves, bits}

-- 64 bits from their halves
unfoldable pub joined : ℕ → ℕ → ℕ
joined low high = low + high * 2 ^ 32

-- the integer that 64 bits are
unfoldable pub signed : ℕ → ℤ
signed n = elim (ltb n (2 ^ 63)) [ true ↦ pos n | false ↦ negsuc (2 ^ 64 - suc n) ]

-- HALVES
pub joined-halves : (n : ℕ) → joined (n % 2 ^ 32) (n / 2 ^ 32) ≡ n
unfolding joined
joined-halves n = omega arith

pub halves-joined : (a b : ℕ) → a < 2 ^ 32 → halves (joined a b) ≡ a ∷ b ∷ []
unfolding joined halves
halves-joined a b h =
    let l : (a + b * 4294967296) % 4294967296 ≡ a = omega arith in
    let g : (a + b * 4294967296) / 4294967296 ≡ b = omega arith in
    rw (l, g)

pub joined_small : (a b : ℕ) → a < 2 ^ 32 → b < 2 ^ 32 → joined a b < 2 ^ 64
unfolding joined
joined_small a b h g = omega arith

-- INTEGERS
pub signed_low : (n : ℕ) → n < 2 ^ 63 → signed n ≡ pos n
unfolding signed
signed_low n h = rw (signed, lt-ltb n 9223372036854775808 h)

pub signed_high : (n : ℕ) → 2 ^ 63 ≤ n → signed n ≡ negsuc (2 ^ 64 - suc n)
unfolding signed
signed_high n h = rw (signed, le-ltb n 9223372036854775808 h)

pub bits-signed : (n : ℕ) → n < 2 ^ 64 → bits (signed n) ≡ n
unfolding bits
bits-signed n h = elim (dec_lt n 9223372036854775808) [ yes y ↦ low (omega (arith, y)) | no y ↦ high (omega (arith, y)) ]
  where
    low : n < 9223372036854775808 → bits (signed n) ≡ n
    low l = rw (signed_low n l)

    high : 9223372036854775808 ≤ n → bits (signed n) ≡ n
    high l = rw (signed_high n l) (omega arith)

pub signed-bits : (z : ℤ) → mag z < 2 ^ 63 → signed (bits z) ≡ z
unfolding bits
signed-bits (pos n) h = signed_low n h
signed-bits (negsuc n) h =
    let e : 2 ^ 64 - suc (2 ^ 64 - suc n) ≡ n = omega arith in
    rw (signed_high (2 ^ 64 - suc n) (omega arith), e)
