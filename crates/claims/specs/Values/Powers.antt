-- Integer powers and factorials are exact, or refused as overflow: the rules' shortcuts change no answer.
use Rattle.std.specs.Prelude.{ℕ, zero, suc, ◌+◌, ◌*◌, ◌%◌, ◌^◌, ◌≤◌, ◌≡◌, refl, Bool, true, false, not, ◌&&◌, eqb, ltb, ℤ, pos, negsuc, neg_ℤ, ◌*ℤ◌}
use Rattle.std.proofs.Common.{arith, mul_comm, zero-mul, suc-mul, pow-suc, add-suc, zero-add, add-zero, le_trans, sym, ◌∙◌, ltb-true, ltb-false, eqb-true, le-ltb, le-leb}
use Rattle.std.proofs.Math.Nat.{pow-zero, pow-le-pow_left, pow-le-pow_right}
use Rattle.std.proofs.Math.IntN as Integer
use Rattle.std.specs.Int.Signed.{mag}
use Rattle.std.proofs.lemmas.Bool.{eqb-false}
use Rattle.rules.specs.Refusals.{integer_overflow}
use Rattle.rules.specs.Arithmetic.{fails, fitted, bounded, power, raised, product, factorial}

overflows : (z : ℤ) → 2 ^ 63 ≤ mag z → fitted z ≡ fails integer_overflow
unfolding fitted
overflows z h = rw (le-ltb (mag z) (2 ^ 63) h, fitted)

-- POWERS
-- the bounded power and the exact one, with a sign: both are past 64 bits, or they are the same
bounded-exact : (sign : ℕ → ℤ) → ((n : ℕ) → n ≤ suc (mag (sign n))) → (m e : ℕ) → fitted (sign (bounded m e)) ≡ fitted (sign (m ^ e))
unfolding bounded
bounded-exact sign h m e = go (ltb 1 m) (ltb 63 e) refl refl
  where
    large : 2 ≤ m → 64 ≤ e → 2 ^ 64 ≤ m ^ e
    large p q = le_trans (pow-le-pow_left p 64) (pow-le-pow_right {n = m} (omega arith) q)

    go : (a b : Bool) → ltb 1 m ≡ a → ltb 63 e ≡ b → fitted (sign (elim (a && b) [ true ↦ 2 ^ 64 | false ↦ m ^ e ])) ≡ fitted (sign (m ^ e))
    go true true p q =
        overflows (sign (2 ^ 64)) (omega (arith, h (2 ^ 64))) ∙ sym (overflows (sign (m ^ e)) (omega (arith, h (m ^ e), large (ltb-true 1 m p) (ltb-true 63 e q))))
    go true false p q = refl
    go false b p q = refl

-- the bounded power is fitted as the exact one is, and so is its negation
pub positive-power : (m e : ℕ) → fitted (pos (bounded m e)) ≡ fitted (pos (m ^ e))
positive-power m e = bounded-exact pos (λ n. omega arith) m e

pub negative_power : (m e : ℕ) → fitted (neg_ℤ (pos (bounded m e))) ≡ fitted (neg_ℤ (pos (m ^ e)))
negative_power m e = bounded-exact (λ n. neg_ℤ (pos n)) near m e
  where
    near : (n : ℕ) → n ≤ suc (mag (neg_ℤ (pos n)))
    near zero = omega arith
    near (suc n) = omega arith

-- the sign and the size of a negative number's power
abbrev signed : Bool → ℕ → ℤ
signed odd n = elim odd [ true ↦ neg_ℤ (pos n) | false ↦ pos n ]

signed-step : (odd : Bool) (n m : ℕ) → signed odd n *ℤ negsuc m ≡ signed (not odd) (n * suc m)
signed-step true zero m = rw (zero-mul (suc m))
signed-step true (suc n) m = refl
signed-step false n m = refl

odd-suc : (e : ℕ) → eqb (suc e % 2) 1 ≡ not (eqb (e % 2) 1)
odd-suc e = go (eqb (e % 2) 1) refl
  where
    go : (b : Bool) → eqb (e % 2) 1 ≡ b → eqb (suc e % 2) 1 ≡ not b
    go true p = let q : suc e % 2 ≡ 0 = omega (arith, eqb-true (e % 2) 1 p) in rw q
    go false p = let q : suc e % 2 ≡ 1 = omega (arith, eqb-false (e % 2) 1 p) in rw q

positive-exact : (m e : ℕ) → Integer.pow (pos m) e ≡ pos (m ^ e)
unfolding Integer.pow Integer.one
positive-exact m zero = rw (pow-zero m)
positive-exact m (suc e) = rw (positive-exact m e, pow-suc m e)

negative-exact : (m e : ℕ) → Integer.pow (negsuc m) e ≡ signed (eqb (e % 2) 1) (suc m ^ e)
unfolding Integer.pow Integer.one
negative-exact m zero = rw (pow-zero (suc m))
negative-exact m (suc e) = rw (negative-exact m e, pow-suc (suc m) e, odd-suc e) (signed-step (eqb (e % 2) 1) (suc m ^ e) m)

-- the power is exact, or refused as overflow
pub power-exact : (m : ℤ) (e : ℕ) → fitted (power m e) ≡ fitted (Integer.pow m e)
unfolding power
power-exact (pos m) e = rw (positive-exact m e) (positive-power m e)
power-exact (negsuc m) e = rw (negative-exact m e) (go (eqb (e % 2) 1))
  where
    go : (b : Bool) → fitted (elim b [ true ↦ neg_ℤ (pos (bounded (suc m) e)) | false ↦ pos (bounded (suc m) e) ]) ≡ fitted (signed b (suc m ^ e))
    go true = negative_power (suc m) e
    go false = positive-power (suc m) e

-- `pow` of integers, of an exponent of 32 bits
pub raised-exact : (m : ℤ) (e : ℕ) → e ≤ 4294967295 → raised m (pos e) ≡ fitted (Integer.pow m e)
unfolding raised
raised-exact m e h = rw (le-leb e 4294967295 h, raised) (power-exact m e)

-- FACTORIALS
-- the product of the numbers from 1 to n
infixl 80 ◌!
unfoldable pub ◌! : ℕ → ℕ
zero ! = 1
suc n ! = suc n * n !

factorial-rises : (k n : ℕ) → k ! ≤ (k + n) !
unfolding ◌!
factorial-rises k zero = rw (add-zero k) (omega arith)
factorial-rises k (suc n) = rw (add-suc k n) (omega (arith, factorial-rises k n, suc-mul (k + n) ((k + n) !)))

product-exact : (n k : ℕ) → fitted (pos (product n (suc k) (k !))) ≡ fitted (pos ((k + n) !))
unfolding product ◌!
product-exact zero k = rw (add-zero k)
product-exact (suc n) k = go (ltb (k !) (2 ^ 63)) refl (product-exact n (suc k))
  where
    go : (b : Bool) → ltb (k !) (2 ^ 63) ≡ b → fitted (pos (product n (suc (suc k)) (suc k * k !))) ≡ fitted (pos ((suc k + n) !))
        → fitted (pos (elim b [ true ↦ product n (suc (suc k)) (k ! * suc k) | false ↦ k ! ])) ≡ fitted (pos ((k + suc n) !))
    go true p h = let q : k + suc n ≡ suc k + n = omega arith in rw (mul_comm (k !) (suc k), q) h
    go false p h = overflows (pos (k !)) (ltb-false (k !) (2 ^ 63) p) ∙ sym (overflows (pos ((k + suc n) !)) (omega (arith, factorial-rises k (suc n), ltb-false (k !) (2 ^ 63) p)))

-- the factorial is exact, or refused as overflow
pub factorial-exact : (n : ℕ) → factorial (pos n) ≡ fitted (pos (n !))
unfolding factorial ◌!
factorial-exact n = product-exact n 0 ∙ rw (zero-add n)
