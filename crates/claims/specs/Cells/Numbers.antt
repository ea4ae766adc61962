-- Properties of numbers: of every number in a range, and how many have one.
use Rattle.std.specs.Prelude.{ℕ, zero, suc, ◌+◌, ◌≤◌, ◌<◌, ◌≡◌, refl, ◌⊎◌, length}
use Rattle.std.proofs.Common.{arith, ap, inl, inr}
use Rattle.std.proofs.Math.Decide.{dec_lt, ℕ_discrete}
use mathlib.Core.List.Memᴰ
use mathlib.Core.List.{List, [], ◌∷◌, Memᴰ}

-- P holds of every number from n up to m
abbrev pub Between : (ℕ → Type 0) → ℕ → ℕ → Type 0
Between P n m = (i : ℕ) → n ≤ i → i < m → P i

pub between_none : (P : ℕ → Type 0) (n : ℕ) → Between P n n
between_none P n i l h = absurd (omega arith)

pub between_join : (P : ℕ → Type 0) (n k m : ℕ) → Between P n k → Between P k m → Between P n m
between_join P n k m f g i l h = elim (dec_lt i k) [ yes y ↦ f i l y | no y ↦ g i (omega arith) h ]

pub between_next : (P : ℕ → Type 0) (n m k : ℕ) → k ≡ m + 1 → Between P n m → P m → Between P n k
between_next P n m k e f p = between_join P n m k f λ i l h. let q : i ≡ m = omega arith in rw q p

-- no number stands in the list twice
unfoldable pub Distinct : List ℕ → Type 0
Distinct [] = Unit {0}
Distinct (i ∷ is') = ¬ Memᴰ i is' × Distinct is'

-- n is the number of the naturals with P
pub record NumberOf (P : ℕ → Type 0) (n : ℕ) : Type 0 where
  pub members : List ℕ
  pub sound : (i : ℕ) → Memᴰ i members → P i
  pub complete : (i : ℕ) → P i → Memᴰ i members
  pub distinct : Distinct members
  pub size : length members ≡ n

-- n numbers, from k on
counting : ℕ → ℕ → List ℕ
counting k zero = []
counting k (suc n) = k ∷ counting (suc k) n

counting-bounds : (n k i : ℕ) → Memᴰ i (counting k n) → (k ≤ i) × (i < k + n)
unfolding counting
counting-bounds zero k i m = absurd (Memᴰ.not-nil m)
counting-bounds (suc n) k i m = pick (λ t. counting-bounds n (suc k) i t) (Memᴰ.cases_cons m)
  where
    pick : (Memᴰ i (counting (suc k) n) → (suc k ≤ i) × (i < suc k + n))
        → (i ≡ k) ⊎ Memᴰ i (counting (suc k) n) → (k ≤ i) × (i < k + suc n)
    pick below (inl e) = omega arith
    pick below (inr t) = let b = below t in omega arith

counting-member : (n k i : ℕ) → k ≤ i → i < k + n → Memᴰ i (counting k n)
unfolding counting
counting-member zero k i l h = absurd (omega arith)
counting-member (suc n) k i l h = pick (counting-member n (suc k) i) (ℕ_discrete i k)
  where
    pick : (suc k ≤ i → i < suc k + n → Memᴰ i (counting (suc k) n)) → Dec (i ≡ k)
        → Memᴰ i (k ∷ counting (suc k) n)
    pick later (yes e) = Memᴰ.head e
    pick later (no d) = Memᴰ.tail (later (omega arith) (omega arith))

counting-distinct : (n k : ℕ) → Distinct (counting k n)
unfolding counting Distinct
counting-distinct zero k = tt
counting-distinct (suc n) k = (λ m. let b = counting-bounds n (suc k) k m in omega arith, counting-distinct n (suc k))

counting-length : (n k : ℕ) → length (counting k n) ≡ n
unfolding counting
counting-length zero k = refl
counting-length (suc n) k = ap suc (counting-length n (suc k))

-- a property that the numbers below n have, and no others, has n
pub number-below : (P : ℕ → Type 0) (n : ℕ) → ((i : ℕ) → i < n → P i) → ((i : ℕ) → P i → i < n) → NumberOf P n
number-below P n f g = record {
  members = counting 0 n;
  sound = λ i m. let b = counting-bounds n 0 i m in f i (omega arith);
  complete = λ i p. let h = g i p in counting-member n 0 i (omega arith) (omega arith);
  distinct = counting-distinct n 0;
  size = counting-length n 0;
}
