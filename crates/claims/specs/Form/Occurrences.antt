-- How often a number stands in a list.
use Rattle.std.specs.Prelude.{ℕ, suc, ◌+◌, ◌≤◌, ◌<◌, ◌≡◌, refl, Bool, true, false, List, [], ◌∷◌, ◌++◌, eqb, ltb}
use Rattle.std.proofs.Common.{arith, eqb-true, le-ltb, lt-ltb}
use Rattle.std.proofs.Math.Decide.{dec_lt}
use Rattle.std.proofs.lemmas.Bool.{eqb-false}

unfoldable pub occurrences : ℕ → List ℕ → ℕ
occurrences k [] = 0
occurrences k (x ∷ xs) = elim (eqb x k) [ true ↦ suc (occurrences k xs) | false ↦ occurrences k xs ]

pub occurrences-append : (k : ℕ) (xs ys : List ℕ) → occurrences k (xs ++ ys) ≡ occurrences k xs + occurrences k ys
unfolding occurrences
occurrences-append k [] ys = omega arith
occurrences-append k (x ∷ xs) ys = go (eqb x k) (occurrences-append k xs ys)
  where
    go : (b : Bool) → occurrences k (xs ++ ys) ≡ occurrences k xs + occurrences k ys
        → (elim b as (λ c. ℕ) [ true ↦ suc (occurrences k (xs ++ ys)) | false ↦ occurrences k (xs ++ ys) ])
        ≡ (elim b as (λ c. ℕ) [ true ↦ suc (occurrences k xs) | false ↦ occurrences k xs ]) + occurrences k ys
    go true h = omega arith
    go false h = h

-- 1 for a number from i up to m, else 0
unfoldable pub among : ℕ → ℕ → ℕ → ℕ
among i m k = elim (ltb k i) [ true ↦ 0 | false ↦ elim (ltb k m) [ true ↦ 1 | false ↦ 0 ] ]

pub among-inside : (i m k : ℕ) → i ≤ k → k < m → among i m k ≡ 1
unfolding among
among-inside i m k h g = rw (among, le-ltb k i h, lt-ltb k m g)

among-before : (i m k : ℕ) → k < i → among i m k ≡ 0
unfolding among
among-before i m k h = rw (among, lt-ltb k i h)

among-behind : (i m k : ℕ) → m ≤ k → among i m k ≡ 0
unfolding among
among-behind i m k h = go (ltb k i) (ltb k m) (le-ltb k m h)
  where
    go : (b c : Bool) → c ≡ false → ◌≡◌ {A = ℕ} (elim b [ true ↦ 0 | false ↦ elim c [ true ↦ 1 | false ↦ 0 ] ]) 0
    go true c e = refl
    go false c e = rw e

-- none from a number to itself
pub among_none : (i k : ℕ) → among i i k ≡ 0
among_none i k = elim (dec_lt k i) [ yes h ↦ among-before i i k h | no h ↦ among-behind i i k (omega arith) ]

-- from i to m and on to n
pub among-join : (i m n k : ℕ) → i ≤ m → m ≤ n → among i m k + among m n k ≡ among i n k
among-join i m n k h g = elim (dec_lt k i) [
  | yes u ↦ omega (arith, among-before i m k u, among-before m n k (omega arith), among-before i n k u)
  | no u ↦ elim (dec_lt k m) [
    | yes v ↦ omega (arith, among-inside i m k (omega arith) v, among-before m n k v, among-inside i n k (omega arith) (omega arith))
    | no v ↦ elim (dec_lt k n) [
      | yes w ↦ omega (arith, among-behind i m k (omega arith), among-inside m n k (omega arith) w, among-inside i n k (omega arith) w)
      | no w ↦ omega (arith, among-behind i m k (omega arith), among-behind m n k (omega arith), among-behind i n k (omega arith))
    ]
  ]
]

-- one number in front
pub occurrences-cons : (k x : ℕ) (xs : List ℕ) → occurrences k (x ∷ xs) ≡ among x (suc x) k + occurrences k xs
unfolding occurrences
occurrences-cons k x xs = go (eqb x k) refl
  where
    go : (b : Bool) → eqb x k ≡ b
        → (elim b as (λ c. ℕ) [ true ↦ suc (occurrences k xs) | false ↦ occurrences k xs ]) ≡ among x (suc x) k + occurrences k xs
    go true e = let h = eqb-true x k e in omega (arith, among-inside x (suc x) k (omega arith) (omega arith))
    go false e =
        let h = eqb-false x k e in
        elim (dec_lt k x) [
          | yes u ↦ omega (arith, among-before x (suc x) k u)
          | no u ↦ omega (arith, among-behind x (suc x) k (omega arith))
        ]
