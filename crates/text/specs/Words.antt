-- Keywords: which of some words a byte string is.
use Rattle.std.specs.Prelude.{ℕ, zero, suc, ◌+◌, ◌-◌, ◌≤◌, ◌<◌, ◌≡◌, refl, Bool, true, false, List, [], ◌∷◌, eqb, length, get_or, take, drop}
use Rattle.std.proofs.Common.{arith, add-zero, zero-add, ◌∙◌, drop_of_length-le, drop-drop}
use Rattle.std.proofs.Math.Option.{Option, none, some}
use Rattle.rules.specs.Lists.{Bytes, same, named}
use Rattle.text.specs.Bytes.{run, stop_at, step}

-- words, each closed by a blank
unfoldable pub push : ℕ → List Bytes → List Bytes
push x [] = (x ∷ []) ∷ []
push x (w ∷ ws) = (x ∷ w) ∷ ws

unfoldable pub words_of : Bytes → List Bytes
words_of [] = []
words_of (x ∷ xs) = elim (eqb x 32) [ true ↦ [] ∷ words_of xs | false ↦ push x (words_of xs) ]

-- the number of the first of some words that this is, or how many words there are
unfoldable pub find : List Bytes → Bytes → ℕ
find [] k = 0
find (w ∷ ws) k = elim (same w k) [ true ↦ 0 | false ↦ suc (find ws k) ]

-- A TABLE OF WORDS
unfoldable pub keys : {A : Type 0} → List (Bytes × A) → List Bytes
keys [] = []
keys (e ∷ es) = e.0 ∷ keys es

-- what the n-th word stands for
unfoldable pub nth : {A : Type 0} → List (Bytes × A) → ℕ → Option A
nth [] n = none
nth (e ∷ es) zero = some e.1
nth (e ∷ es) (suc n) = nth es n

-- a table is asked by the number of the word
pub named-nth : {A : Type 0} (t : List (Bytes × A)) (k : Bytes) → named t k ≡ nth t (find (keys t) k)
unfolding named nth find keys
named-nth [] k = refl
named-nth (e ∷ es) k = go (same e.0 k) refl (named-nth es k)
  where
    go : (b : Bool) → same e.0 k ≡ b → named es k ≡ nth es (find (keys es) k) → named (e ∷ es) k ≡ nth (e ∷ es) (find (keys (e ∷ es)) k)
    go true h ih = rw (named, find, h)
    go false h ih = rw (named, find, h) ih

-- a table whose words are these, by the number that was found
pub named_by : {A : Type 0} (t : List (Bytes × A)) (words k : Bytes) (n : ℕ) → keys t ≡ words_of words → n ≡ find (words_of words) k → named t k ≡ nth t n
named_by t words k n e h = named-nth t k ∙ rw (e, h)

-- no word: as many as there are
pub nth-none : {A : Type 0} (t : List (Bytes × A)) (n : ℕ) → length t ≤ n → nth t n ≡ none
unfolding nth
nth-none [] n h = refl
nth-none (e ∷ es) zero h = absurd (omega arith)
nth-none (e ∷ es) (suc n) h = nth-none es n (omega arith)

-- WORDS BY POSITION
push-words : (x : ℕ) (xs : Bytes) → push x (words_of xs) ≡ (x ∷ take (run 32 32 xs) xs) ∷ words_of (drop (suc (run 32 32 xs)) xs)
unfolding push words_of run
push-words x [] = refl
push-words x (y ∷ ys) = go (eqb y 32) refl (push-words y ys)
  where
    go : (b : Bool) → eqb y 32 ≡ b → push y (words_of ys) ≡ (y ∷ take (run 32 32 ys) ys) ∷ words_of (drop (suc (run 32 32 ys)) ys)
        → push x (words_of (y ∷ ys)) ≡ (x ∷ take (run 32 32 (y ∷ ys)) (y ∷ ys)) ∷ words_of (drop (suc (run 32 32 (y ∷ ys))) (y ∷ ys))
    go true e ih = rw (words_of, run, e)
    go false e ih = rw (words_of, run, e, e, ih)

words-first : (x : ℕ) (xs : Bytes) → words_of (x ∷ xs) ≡ take (run 32 32 (x ∷ xs)) (x ∷ xs) ∷ words_of (drop (suc (run 32 32 (x ∷ xs))) (x ∷ xs))
unfolding push words_of run
words-first x xs = go (eqb x 32) refl
  where
    go : (b : Bool) → eqb x 32 ≡ b → words_of (x ∷ xs) ≡ take (run 32 32 (x ∷ xs)) (x ∷ xs) ∷ words_of (drop (suc (run 32 32 (x ∷ xs))) (x ∷ xs))
    go true e = rw (words_of, run, e)
    go false e = rw (words_of, run, e, e) (push-words x xs)

-- the words from p on: the one that ends at e, and those behind it
pub words-at : (t : Bytes) (p e : ℕ) → p < length t → e ≡ stop_at 32 32 t p → words_of (drop p t) ≡ take (e - p) (drop p t) ∷ words_of (drop (e + 1) t)
unfolding stop_at
words-at t p e l h =
    let k : e - p ≡ run 32 32 (drop p t) = omega arith in
    let d : e + 1 ≡ p + suc (run 32 32 (drop p t)) = omega arith in
    rw (k, d, ← drop-drop (suc (run 32 32 (drop p t))) p t) (rw (← step t p l) at (words-first (get_or t p 0) (drop (p + 1) t)))

-- THE SEARCH
-- n words passed, the next at i
unfoldable pub Search : Bytes → Bytes → ℕ → ℕ → Type 0
Search ws k i n = n + find (words_of (drop i ws)) k ≡ find (words_of ws) k

pub search-begin : (ws k : Bytes) → Search ws k 0 0
unfolding Search
search-begin ws k = zero-add _

module _ (ws k : Bytes) (i n : ℕ) where
  pub search-hit : (e : ℕ) → i < length ws → e ≡ stop_at 32 32 ws i → Search ws k i n → same (take (e - i) (drop i ws)) k ≡ true → n ≡ find (words_of ws) k
  unfolding Search find
  search-hit e l h s x = rw (words-at ws i e l h, find, x, add-zero) at s

  pub search-miss : (e : ℕ) → i < length ws → e ≡ stop_at 32 32 ws i → Search ws k i n → same (take (e - i) (drop i ws)) k ≡ false → Search ws k (e + 1) (n + 1)
  unfolding Search find
  search-miss e l h s x = (omega arith) ∙ (rw (words-at ws i e l h, find, x) at s)

  pub search-end : length ws ≤ i → Search ws k i n → n ≡ find (words_of ws) k
  unfolding Search find words_of
  search-end h s = rw (drop_of_length-le ws h, add-zero) at s
