-- What each operation answers, from what std's checked one ensures.
use mathlib.Core.Path.{◌≡◌, sym, ◌∙◌, ap}
use mathlib.Core.Logic.{◌⊎◌, inl, inr}
use Prim.Native.Nat.{ℕ, zero, suc, ◌%◌, ◌<◌, ◌≤◌, ◌^◌}
use native.Mathlib.Nat.{pow-le-pow_left}
use Rattle.std.proofs.Math.Nat.{suc-ne-zero}
use Rattle.std.proofs.Math.Pow.{pow_mono}
use native.Mathlib.Omega.{arith}
use lib.IntN.{ℤ, pos, negsuc, neg_ℤ, nat_abs}
use lib.Signed.{quot_z, rem_z}
use borrow.Author.Tests.{eq-eqb, ne_eqb, le-leb, lt-leb, lt-ltb, le-ltb}
use mir.Syntax.{w64}
use mir.Val.{SFits, of_z}
use Rattle.std.proofs.lemmas.Bool.{cases_lt}
use Rattle.std.specs.Prelude.{Option, None, Some, Result, SomeIff, Err}
use Rattle.std.specs.Option.{ok_or}
use Rattle.std.specs.Int.{CanDivide, int_pow}
use Rattle.numbers.specs.Reasons.{reason_of}
use Rattle.numbers.specs.declared.refusals.Reason.TheVariants as Re
use Rattle.numbers.specs.declared.refusals.Reason.{Reason}
use Rattle.rules.specs.Arithmetic.{gives, fails, fitted, quotient, remainder, bounded, power, raised}
use Rattle.rules.specs.Refusals.{integer_overflow}
use Rattle.rules.specs.Schema.{int}
use Rattle.ints.specs.Checked.{checked}
use Rattle.ints.proofs.Fitted.{fits, over, of-option}
use Rattle.ints.proofs.Signed.{stored, read}

-- a divisor, by its bits
none : (y : ℤ) → SFits w64 y → of_z w64 y ≡ 0 → nat_abs y ≡ 0
none (pos n) f e = e
none (negsuc n) f e = omega (arith, f.sfits)

some-size : (y : ℤ) → (of_z w64 y ≡ 0 → ⊥) → nat_abs y ≡ 0 → ⊥
some-size (pos n) h e = h e
some-size (negsuc n) h e = suc-ne-zero n e

module _ (x y : ℤ) (k : SFits w64 y) (z : of_z w64 y ≡ 0) where
  pub quotient-none : checked (Err Re.DivisionByZero) ≡ quotient x y
  unfolding checked reason_of quotient
  quotient-none = rw (quotient, eq-eqb (nat_abs y) 0 (none y k z))

  pub remainder-none : checked (Err Re.DivisionByZero) ≡ remainder x y
  unfolding checked remainder
  remainder-none = rw (remainder, sym quotient-none)

module _ (x y : ℤ) (nz : of_z w64 y ≡ 0 → ⊥) where
  by-size : quotient x y ≡ fitted (quot_z x y)
  unfolding quotient
  by-size = rw (quotient, ne_eqb (nat_abs y) 0 (some-size y nz))

  above : 0 < of_z w64 y
  above = omega arith

  divided : (o : Option ℤ) → SomeIff o (CanDivide w64 x y) (quot_z x y) → checked (ok_or o Re.IntegerOverflow) ≡ quotient x y
  divided (Some z) h = of-option (quot_z x y) (Some z) (h.0.1, h.1) ∙ sym by-size
  divided None h = of-option (quot_z x y) None (λ f. h (above, f)) ∙ sym by-size

  left : (o : Option ℤ) → SomeIff o (CanDivide w64 x y) (rem_z x y) → checked (ok_or o Re.IntegerOverflow) ≡ remainder x y
  unfolding remainder checked
  left (Some z) h = rw (remainder, by-size, sym (fits (quot_z x y) h.0.1.sfits)) (ap (λ (v : ℤ). gives (int v)) h.1)
  left None h = rw (remainder, by-size, sym (of-option (quot_z x y) None (λ f. h (above, f))))

-- powers
over-below : (n : ℕ) → 2 ^ 64 ≤ n → fails integer_overflow ≡ fitted (neg_ℤ (pos n))
over-below zero h = absurd (omega arith)
over-below (suc k) h = over (negsuc k) (omega arith)

module _ (m e : ℕ) where
  bounded-is : (P : ℤ → ℤ) → ((n : ℕ) → 2 ^ 64 ≤ n → fails integer_overflow ≡ fitted (P (pos n))) → fitted (P (pos (bounded m e))) ≡ fitted (P (pos (m ^ e)))
  unfolding bounded
  bounded-is P past = go (cases_lt 1 m) (cases_lt 63 e)
    where
      two : 63 < e → 2 ^ 64 ≤ 2 ^ e
      two k = pow_mono k

      go : (1 < m) ⊎ (m ≤ 1) → (63 < e) ⊎ (e ≤ 63) → fitted (P (pos (bounded m e))) ≡ fitted (P (pos (m ^ e)))
      go (inr h) k = rw (bounded, le-ltb 1 m h)
      go (inl h) (inr k) = rw (bounded, lt-ltb 1 m h, le-ltb 63 e k)
      go (inl h) (inl k) = rw (bounded, lt-ltb 1 m h, lt-ltb 63 e k) (sym (past (2 ^ 64) (omega arith)) ∙ past (m ^ e) (omega (arith, pow-le-pow_left h e, two k)))

power-is : (x : ℤ) (e : ℕ) → fitted (power x e) ≡ fitted (int_pow x e)
unfolding power
power-is (pos m) e = bounded-is m e (λ z. z) (λ n h. over (pos n) (omega arith))
power-is (negsuc m) e = go (cases_lt 0 (e % 2))
  where
    go : (0 < e % 2) ⊎ (e % 2 ≤ 0) → fitted (power (negsuc m) e) ≡ fitted (int_pow (negsuc m) e)
    go (inl h) = let odd : e % 2 ≡ 1 = omega arith in rw (power, odd) (bounded-is (suc m) e neg_ℤ over-below)
    go (inr h) = let even : e % 2 ≡ 0 = omega arith in rw (power, even) (bounded-is (suc m) e (λ z. z) (λ n h. over (pos n) (omega arith)))

module _ (x : ℤ) (e : ℕ) where
  pub power-past : 4294967295 < e → checked (Err Re.IntegerOverflow) ≡ raised x (pos e)
  unfolding checked reason_of raised
  power-past h = rw (raised, lt-leb e 4294967295 h)

  power-within : e ≤ 4294967295 → fitted (int_pow x e) ≡ raised x (pos e)
  unfolding raised
  power-within h = sym (power-is x e) ∙ sym (rw (raised, le-leb e 4294967295 h))

-- the answers
module _ (x : ℤ) (j : SFits w64 x) {r : Result ℤ Reason} (o : Option ℤ) (g : r ≡ ok_or o Re.IntegerOverflow) where
  pub of-one : (op : ℤ → ℤ) → SomeIff o (SFits w64 (op (stored x))) (op (stored x)) → checked r ≡ fitted (op x)
  of-one op h = ap checked g ∙ of-option _ o h ∙ ap (λ (z : ℤ). fitted (op z)) (read x j)

  pub of-power : (e k : ℕ) → k ≡ e → e ≤ 4294967295 → SomeIff o (SFits w64 (int_pow (stored x) k)) (int_pow (stored x) k) → checked r ≡ raised x (pos e)
  of-power e k s l h = of-one (λ z. int_pow z k) h ∙ ap (λ (n : ℕ). fitted (int_pow x n)) s ∙ power-within x e l

  module _ (y : ℤ) (k : SFits w64 y) where
    pub of-two : (op : ℤ → ℤ → ℤ) → SomeIff o (SFits w64 (op (stored x) (stored y))) (op (stored x) (stored y)) → checked r ≡ fitted (op x y)
    of-two op h = ap checked g ∙ of-option _ o h ∙ (λ i. fitted (op (read x j i) (read y k i)))

    module _ (nz : of_z w64 y ≡ 0 → ⊥) where
      kept : of_z w64 (stored y) ≡ 0 → ⊥
      kept e = nz (sym (ap (of_z w64) (read y k)) ∙ e)

      pub of-div : SomeIff o (CanDivide w64 (stored x) (stored y)) (quot_z (stored x) (stored y)) → checked r ≡ quotient x y
      of-div h = ap checked g ∙ divided (stored x) (stored y) kept o h ∙ (λ i. quotient (read x j i) (read y k i))

      pub of-rem : SomeIff o (CanDivide w64 (stored x) (stored y)) (rem_z (stored x) (stored y)) → checked r ≡ remainder x y
      of-rem h = ap checked g ∙ left (stored x) (stored y) kept o h ∙ (λ i. remainder (read x j i) (read y k i))
