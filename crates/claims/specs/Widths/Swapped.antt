-- The targets by which a right join swaps its columns back: each column has one target, and the opposite swap gives the
-- sources.
use Prim.Native.Nat.{ℕ, zero, suc, ◌+◌, ◌-◌, ◌<◌}
use Rattle.std.proofs.Common.{arith, zero-add, add-one, sym, ap, ap₂, ◌∙◌, append_assoc, length-append, eq-eqb, ne_eqb}
use Rattle.std.specs.Prelude.{◌≡◌, List, [], ◌∷◌, ◌++◌, length}
use Rattle.std.proofs.Math.Path.{refl}
use Rattle.std.proofs.Math.Option.{Option, none, some}
use Rattle.rules.specs.Plan.{target_count, last_source, first_source, invert_remap}
use Rattle.rules.specs.BuildFrom.{rising, swapped}
use Rattle.claims.specs.Answers.{All, all_append}
use Rattle.claims.specs.Widths.Tabulate.{tabulate, length-tabulate, tabulate-append, tabulate-same}
use Rattle.claims.specs.Widths.Tabulate.{rising-is, sources-are}

-- WIDTH
target_count-append : (xs ys : List (Option ℕ))
    → target_count (xs ++ ys) ≡ Prim.Native.Nat.max (target_count xs) (target_count ys)
unfolding target_count
target_count-append [] ys = omega arith
target_count-append (none ∷ xs) ys = target_count-append xs ys
target_count-append (some t ∷ xs) ys = omega (arith, target_count-append xs ys)

target_count-rising : (n i : ℕ) → target_count (rising i (suc n)) ≡ i + suc n
unfolding target_count rising
target_count-rising zero i = omega arith
target_count-rising (suc n) i = omega (arith, target_count-rising n (i + 1))

-- a swap has as many targets as columns
pub swapped-count : (a b : ℕ) → target_count (swapped a b) ≡ a + b
unfolding swapped
swapped-count a b = rw target_count-append (go a b)
  where
    go : (a b : ℕ) → Prim.Native.Nat.max (target_count (rising b a)) (target_count (rising 0 b)) ≡ a + b
    go zero zero = unfold target_count rising in refl
    go zero (suc b) = unfold target_count rising in (omega (arith, target_count-rising b 0))
    go (suc a) zero = unfold target_count rising in (omega (arith, target_count-rising a 0))
    go (suc a) (suc b) = omega (arith, target_count-rising a (suc b), target_count-rising b 0)

-- SOURCES
-- no column goes to target t
unfoldable pub Absent : ℕ → List (Option ℕ) → Type 0
Absent t ts = All (λ o. ¬ (o ≡ some t)) ts

-- column j, and no other, goes to target t
pub record Once (t j : ℕ) (ts : List (Option ℕ)) : Type 0 where
  pub front : List (Option ℕ)
  pub back : List (Option ℕ)
  pub split : ts ≡ front ++ some t ∷ back
  pub place : length front ≡ j
  pub absent-front : Absent t front
  pub absent-back : Absent t back

first-split : (xs ys : List (Option ℕ)) (t i : ℕ) → Absent t xs
    → first_source t i (xs ++ some t ∷ ys) ≡ some (i + length xs)
unfolding first_source Absent All
first-split [] ys t i h = rw (eq-eqb t t refl, first_source) (ap some (omega arith))
first-split (none ∷ xs) ys t i h = first-split xs ys t (suc i) h.1 ∙ ap some (omega arith)
first-split (some u ∷ xs) ys t i h = rw (ne_eqb u t λ e. h.0 (ap some e), first_source)
    (first-split xs ys t (suc i) h.1 ∙ ap some (omega arith))

last-absent : (ts : List (Option ℕ)) (t i : ℕ) → Absent t ts → last_source t i ts ≡ none
unfolding last_source Absent All
last-absent [] t i h = refl
last-absent (none ∷ ts) t i h = last-absent ts t (suc i) h.1
last-absent (some u ∷ ts) t i h = rw (last-absent ts t (suc i) h.1, ne_eqb u t λ e. h.0 (ap some e))

last-split : (xs ys : List (Option ℕ)) (t i : ℕ) → Absent t ys
    → last_source t i (xs ++ some t ∷ ys) ≡ some (i + length xs)
unfolding last_source
last-split [] ys t i h = rw (last-absent ys t (suc i) h, eq-eqb t t refl) (ap some (omega arith))
last-split (none ∷ xs) ys t i h = last-split xs ys t (suc i) h ∙ ap some (omega arith)
last-split (some u ∷ xs) ys t i h = rw (last-split xs ys t (suc i) h) (ap some (omega arith))

-- the first and the last source of such a target
pub first-once : (t j : ℕ) (ts : List (Option ℕ)) → Once t j ts → first_source t 0 ts ≡ some j
first-once t j ts h =
    rw (h.split, first-split h.front h.back t 0 h.absent-front, h.place) (ap some (omega arith))

last-once : (t j : ℕ) (ts : List (Option ℕ)) → Once t j ts → last_source t 0 ts ≡ some j
last-once t j ts h =
    rw (h.split, last-split h.front h.back t 0 h.absent-back, h.place) (ap some (omega arith))

-- SWAPS
rising-absent : (n i t : ℕ) → ((k : ℕ) → k < n → ¬ (i + k ≡ t)) → Absent t (rising i n)
unfolding rising Absent All
rising-absent zero i t h = tt
rising-absent (suc n) i t h = (
  λ e. h 0 (omega arith) (let q : i ≡ t = cc in omega arith),
  rising-absent n (i + 1) t λ k l e. h (suc k) (omega arith) (omega arith),
)

-- the k-th of n targets from i on
rising-split : (n k i : ℕ) → k < n → rising i n ≡ rising i k ++ some (i + k) ∷ rising (i + k + 1) (n - suc k)
unfolding tabulate
rising-split n k i h =
    let e : n ≡ k + suc (n - suc k) = omega arith in
    rw (rising-is n i, rising-is k i, rising-is (n - suc k) (i + k + 1), add-one)
    (ap (tabulate some i) e ∙ tabulate-append some k (suc (n - suc k)) i)

pub length-rising : (n i : ℕ) → length (rising i n) ≡ n
length-rising n i = rw (rising-is n i) (length-tabulate some n i)

-- a swap has a target for each of a + b columns
pub swapped-length : (a b : ℕ) → length (swapped a b) ≡ a + b
unfolding swapped
swapped-length a b = simp (length-append, length-rising)

-- the first a columns go behind the b others
pub swapped-front : (a b k : ℕ) → k < a → Once (b + k) k (swapped a b)
unfolding swapped Absent
swapped-front a b k h = record {
  front = rising b k;
  back = rising (b + k + 1) (a - suc k) ++ rising 0 b;
  split = rw (rising-split a k b h) (append_assoc (rising b k) _ _);
  place = length-rising k b;
  absent-front = rising-absent k b (b + k) λ m l e. omega arith;
  absent-back = all_append _ (rising (b + k + 1) (a - suc k)) (rising 0 b)
      (rising-absent (a - suc k) (b + k + 1) (b + k) λ m l e. omega arith)
      (rising-absent b 0 (b + k) λ m l e. omega arith);
}

-- the b others go to the front
pub swapped-back : (a b k : ℕ) → k < b → Once k (a + k) (swapped a b)
unfolding swapped Absent
swapped-back a b k h = record {
  front = rising b a ++ rising 0 k;
  back = rising (k + 1) (b - suc k);
  split = rw append_assoc (ap (λ r. rising b a ++ r) (rw zero-add at (rising-split b k 0 h)));
  place = simp (length-append, length-rising);
  absent-front = all_append _ (rising b a) (rising 0 k)
      (rising-absent a b k λ m l e. omega arith) (rising-absent k 0 k λ m l e. omega arith);
  absent-back = rising-absent (b - suc k) (k + 1) k λ m l e. omega arith;
}

-- the sources of a swap are the opposite swap
pub swapped-sources : (a b : ℕ) → invert_remap (swapped a b) ≡ swapped b a
unfolding invert_remap
swapped-sources a b =
    let e : a + b ≡ b + a = omega arith in
    rw (swapped-count, sources-are, e, tabulate-append)
    (ap₂ ◌++◌
    (tabulate-same _ some b 0 a (λ k h. rw zero-add (last-once k (a + k) (swapped a b) (swapped-back a b k h)))
    ∙ sym (rising-is b a))
    (tabulate-same _ some a (0 + b) 0
    (λ k h. simp zero-add (last-once (b + k) k (swapped a b) (swapped-front a b k h))) ∙ sym (rising-is a 0))
    ∙ unfold swapped in refl)
