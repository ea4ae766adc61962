-- What is left of a factorial's product.
use mathlib.Core.Logic.{◌⊎◌, inl, inr}
use mathlib.Core.Path.{◌≡◌, sym, ◌∙◌, ap}
use Prim.Native.Nat.{ℕ, zero, suc, ◌+◌, ◌-◌, ◌*◌, ◌<◌, ◌≤◌, ◌^◌}
use Rattle.std.proofs.Math.Nat.{le-mul_of_pos_right}
use native.Mathlib.Numerals.{add-one}
use native.Mathlib.Omega.{arith}
use lib.IntN.{pos}
use borrow.Author.Tests.{lt-ltb, le-ltb}
use Rattle.std.proofs.lemmas.Bool.{cases_lt}
use Rattle.rules.specs.Arithmetic.{fails, fitted, product, factorial}
use Rattle.rules.specs.Refusals.{integer_overflow}
use Rattle.ints.proofs.Fitted.{over}

-- past 64 bits every further product is
product-over : (n k a : ℕ) → 2 ^ 63 ≤ a → fails integer_overflow ≡ fitted (pos (product n k a))
unfolding product
product-over zero k a h = over (pos a) h
product-over (suc n) k a h = over (pos a) h ∙ ap (λ (m : ℕ). fitted (pos m)) (sym (rw (product, le-ltb a (2 ^ 63) h)))

next : (n k a : ℕ) → 0 < k → fitted (pos (product n (suc k) (a * k))) ≡ fitted (pos (product (suc n) k a))
unfolding product
next n k a p = go (cases_lt a (2 ^ 63))
  where
    go : (a < 2 ^ 63) ⊎ (2 ^ 63 ≤ a) → fitted (pos (product n (suc k) (a * k))) ≡ fitted (pos (product (suc n) k a))
    go (inl h) = ap (λ (m : ℕ). fitted (pos m)) (sym (rw (product, lt-ltb a (2 ^ 63) h)))
    go (inr h) = sym (product-over n (suc k) (a * k) (omega (arith, le-mul_of_pos_right a p))) ∙ product-over (suc n) k a h

-- p times the factors from k to n is the factorial of n
abbrev pub Left : ℕ → ℕ → ℕ → Type 0
Left n k p = fitted (pos (product (n + 1 - k) k p)) ≡ factorial (pos n)

pub at-first : (n : ℕ) → Left n 1 1
unfolding factorial
at-first n = ap (λ (k : ℕ). fitted (pos (product k 1 1))) (less n)
  where
    less : (n : ℕ) → n + 1 - 1 ≡ n
    less n = omega arith

module _ (n k p : ℕ) (h : 0 < k) (l : k ≤ n) (e : Left n k p) where
  one_more : n + 1 - k ≡ suc (n + 1 - (k + 1))
  one_more = omega arith

  pub at-next : Left n (k + 1) (p * k)
  at-next = ap (λ (i : ℕ). fitted (pos (product (n + 1 - (k + 1)) i (p * k)))) (add-one k) ∙ next (n + 1 - (k + 1)) k p h ∙ ap (λ (m : ℕ). fitted (pos (product m k p))) (sym one_more) ∙ e

  pub at-overflow : (p * k < 2 ^ 64 → ⊥) → fails integer_overflow ≡ factorial (pos n)
  at-overflow o = product-over (n + 1 - (k + 1)) (k + 1) (p * k) (omega arith) ∙ at-next

pub at-end : (n k p : ℕ) → n < k → Left n k p → fitted (pos p) ≡ factorial (pos n)
unfolding product
at-end n k p l e = ap (λ (m : ℕ). fitted (pos (product m k p))) (none n k l) ∙ e
  where
    none : (n k : ℕ) → n < k → 0 ≡ n + 1 - k
    none n k l = omega arith
