-- What a code stands for in a list, and its laws: under a function, in two lists side by side, and where a code is in no list.
use Rattle.std.specs.Prelude.{ℕ, zero, suc, ◌+◌, ◌≤◌, ◌<◌, ◌≡◌, refl, Bool, true, false, List, [], ◌∷◌, map, eqb, ltb, length, get_or}
use Rattle.std.proofs.Common.{arith, sym, ap, ◌∙◌, ltb-true, ltb-false, eqb-true, eq-eqb, ne_eqb, le-ltb, lt-ltb}
use Rattle.std.proofs.lemmas.Bool.{eqb-false}

-- what a code stands for in a list, from the code n on; the default where it stands for nothing
unfoldable pub coded : {A : Type 0} → A → List A → ℕ → ℕ → A
coded d [] n k = d
coded d (a ∷ as') n k = elim (eqb n k) [ true ↦ a | false ↦ coded d as' (suc n) k ]

-- a code of a list from n to m, and n for any other
unfoldable pub or_least : ℕ → ℕ → ℕ → ℕ
or_least n m k = elim (ltb k n) [ true ↦ n | false ↦ elim (ltb m k) [ true ↦ n | false ↦ k ] ]

pub least-below : (n m k : ℕ) → k < n → or_least n m k ≡ n
unfolding or_least
least-below n m k h = rw (lt-ltb k n h, or_least)

pub least_above : (n m k : ℕ) → n ≤ k → m < k → or_least n m k ≡ n
unfolding or_least
least_above n m k h l = rw (le-ltb k n h, or_least, lt-ltb m k l)

pub least-between : (n m k : ℕ) → n ≤ k → k ≤ m → or_least n m k ≡ k
unfolding or_least
least-between n m k h l = rw (le-ltb k n h, or_least, le-ltb m k l)

-- another code than the least is its own
pub least_kept : (n m k j : ℕ) → or_least n m k ≡ j → (j ≡ n → ⊥) → k ≡ j
unfolding or_least
least_kept n m k j = low (ltb k n)
  where
    high : (t : Bool) → elim t [ true ↦ n | false ↦ k ] ≡ j → (j ≡ n → ⊥) → k ≡ j
    high true e ne = absurd (ne (sym e))
    high false e ne = e

    low : (t : Bool) → elim t [ true ↦ n | false ↦ elim (ltb m k) [ true ↦ n | false ↦ k ] ] ≡ j → (j ≡ n → ⊥) → k ≡ j
    low true e ne = absurd (ne (sym e))
    low false e ne = high (ltb m k) e ne

-- m numbers from n on
unfoldable pub count_from : ℕ → ℕ → List ℕ
count_from n zero = []
count_from n (suc m) = n ∷ count_from (suc n) m

-- a relation holds of two lists side by side
abbrev pub Beside : {A B : Type 0} → (A → B → Type 0) → List A → List B → Type 0
Beside R [] [] = Unit {0}
Beside R [] (y ∷ ys) = ⊥
Beside R (x ∷ xs) [] = ⊥
Beside R (x ∷ xs) (y ∷ ys) = R x y × Beside R xs ys

-- then it holds of what a code stands for in the two
pub coded-beside : {A B : Type 0} (R : A → B → Type 0) (a : A) (b : B) (xs : List A) (ys : List B) (n k : ℕ) → R a b → Beside R xs ys → R (coded a xs n k) (coded b ys n k)
unfolding coded
coded-beside R a b [] [] n k h hs = h
coded-beside R a b [] (y ∷ ys) n k h hs = absurd hs
coded-beside R a b (x ∷ xs) [] n k h hs = absurd hs
coded-beside R a b (x ∷ xs) (y ∷ ys) n k h hs = pick (eqb n k) (coded-beside R a b xs ys (suc n) k h hs.1)
  where
    pick : (t : Bool) → R (coded a xs (suc n) k) (coded b ys (suc n) k) → R (elim t [ true ↦ x | false ↦ coded a xs (suc n) k ]) (elim t [ true ↦ y | false ↦ coded b ys (suc n) k ])
    pick true r = hs.0
    pick false r = r

-- a function of what a code stands for
pub coded-map : {A B : Type 0} (g : A → B) (a : A) (xs : List A) (n k : ℕ) → g (coded a xs n k) ≡ coded (g a) (map g xs) n k
unfolding coded
coded-map g a [] n k = refl
coded-map g a (x ∷ xs) n k = pick (eqb n k) (coded-map g a xs (suc n) k)
  where
    pick : (t : Bool) → g (coded a xs (suc n) k) ≡ coded (g a) (map g xs) (suc n) k → g (elim t [ true ↦ x | false ↦ coded a xs (suc n) k ]) ≡ elim t [ true ↦ g x | false ↦ coded (g a) (map g xs) (suc n) k ]
    pick true e = refl
    pick false e = e

-- the j-th code of a list
pub coded-at : {A : Type 0} (a : A) (xs : List A) (j n k : ℕ) → k ≡ n + j → coded a xs n k ≡ get_or xs j a
unfolding coded
coded-at a [] j n k h = refl
coded-at a (x ∷ xs) zero n k h = rw (eq-eqb n k (omega arith), coded)
coded-at a (x ∷ xs) (suc j) n k h = rw (ne_eqb n k (λ e. omega arith), coded) (coded-at a xs j (suc n) k (omega arith))

-- a code below the list's, and one above
pub coded-below : {A : Type 0} (a : A) (xs : List A) (n k : ℕ) → k < n → coded a xs n k ≡ a
unfolding coded
coded-below a [] n k h = refl
coded-below a (x ∷ xs) n k h = rw (ne_eqb n k (λ e. omega arith), coded) (coded-below a xs (suc n) k (omega arith))

pub coded-above : {A : Type 0} (a : A) (xs : List A) (n k : ℕ) → n + length xs ≤ k → coded a xs n k ≡ a
unfolding coded
coded-above a [] n k h = refl
coded-above a (x ∷ xs) n k h = rw (ne_eqb n k (λ e. omega arith), coded) (coded-above a xs (suc n) k (omega arith))

-- numbers by their own codes
coded-count : (d m n k : ℕ) → n ≤ k → k < n + m → coded d (count_from n m) n k ≡ k
unfolding coded count_from
coded-count d zero n k h l = absurd (omega arith)
coded-count d (suc m) n k h l = pick (eqb n k) refl (λ ne. coded-count d m (suc n) k (omega arith) (omega arith))
  where
    pick : (t : Bool) → eqb n k ≡ t → ((n ≡ k → ⊥) → coded d (count_from (suc n) m) (suc n) k ≡ k) → elim t [ true ↦ n | false ↦ coded d (count_from (suc n) m) (suc n) k ] ≡ k
    pick true e r = eqb-true n k e
    pick false e r = r (eqb-false n k e)

length-count : (n m : ℕ) → length (count_from n m) ≡ m
unfolding count_from
length-count n zero = refl
length-count n (suc m) = ap suc (length-count (suc n) m)

pub coded-least : (m n k : ℕ) → coded n (count_from n (suc m)) n k ≡ or_least n (n + m) k
unfolding or_least
coded-least m n k = low (ltb k n) refl
  where
    high : (t : Bool) → n ≤ k → ltb (n + m) k ≡ t → coded n (count_from n (suc m)) n k ≡ elim t [ true ↦ n | false ↦ k ]
    high true h e = coded-above n (count_from n (suc m)) n k (omega (arith, length-count n (suc m), ltb-true (n + m) k e))
    high false h e = coded-count n (suc m) n k h (omega (arith, ltb-false (n + m) k e))

    low : (t : Bool) → ltb k n ≡ t → coded n (count_from n (suc m)) n k ≡ elim t [ true ↦ n | false ↦ elim (ltb (n + m) k) [ true ↦ n | false ↦ k ] ]
    low true e = coded-below n (count_from n (suc m)) n k (ltb-true k n e)
    low false e = high (ltb (n + m) k) (ltb-false k n e) refl

-- CODES APART
-- k is none of m numbers from n on
abbrev pub Apart : ℕ → ℕ → ℕ → Type 0
Apart k n zero = Unit {0}
Apart k n (suc m) = Apart k n m × (k ≡ n + m → ⊥)

apart : (k n m j : ℕ) → Apart k n m → j < m → k ≡ n + j → ⊥
apart k n zero j h l e = omega arith
apart k n (suc m) j h l e = pick (eqb j m) refl (λ g. apart k n m j h.0 g e)
  where
    pick : (t : Bool) → eqb j m ≡ t → (j < m → ⊥) → ⊥
    pick true g r = h.1 (e ∙ ap (λ (i : ℕ). n + i) (eqb-true j m g))
    pick false g r = r (omega (arith, eqb-false j m g))

pub coded-miss : {A : Type 0} (d a : A) (as' : List A) (n k : ℕ) → (k ≡ n → ⊥) → coded d (a ∷ as') n k ≡ coded d as' (suc n) k
unfolding coded
coded-miss d a as' n k h = rw (coded, ne_eqb n k (λ e. h (sym e)))

pub coded-end : {A : Type 0} (d : A) (n k : ℕ) → coded d [] n k ≡ d
unfolding coded
coded-end d n k = refl

pub coded_none : {A : Type 0} (a : A) (xs : List A) (n k : ℕ) → Apart k n (length xs) → coded a xs n k ≡ a
coded_none {A} a xs n k h = go xs n (λ j l e. apart k n (length xs) j h l e)
  where
    go : (xs : List A) (n : ℕ) → ((j : ℕ) → j < length xs → k ≡ n + j → ⊥) → coded a xs n k ≡ a
    go [] n h = coded-end a n k
    go (x ∷ xs) n h = coded-miss a x xs n k (λ e. h 0 (omega arith) (omega arith)) ∙ go xs (suc n) (λ j l e. h (suc j) (omega arith) (omega arith))

-- a code of none behind the first stands for the first, where that is the default
pub coded-rest : {A : Type 0} (x : A) (xs : List A) (n k : ℕ) → Apart k (suc n) (length xs) → coded x (x ∷ xs) n k ≡ x
unfolding coded
coded-rest x xs n k h = pick (eqb n k)
  where
    pick : (t : Bool) → elim t [ true ↦ x | false ↦ coded x xs (suc n) k ] ≡ x
    pick true = refl
    pick false = coded_none x xs (suc n) k h
