-- Stores in a row: what stands where, runs one behind the other, the stores one by one.
use Rattle.std.specs.Prelude.{ℕ, zero, suc, ◌+◌, ◌≤◌, ◌<◌, ◌≡◌, refl, List, [], ◌∷◌, ◌++◌, length, get_or, set, take, drop}
use Rattle.std.proofs.Common.{arith, add-zero, ap, sym, ◌∙◌, length-set, length-append, get_or-set_same, get_or-append-add}
use Rattle.std.proofs.Math.ListN.{get_or-append}
use Rattle.std.proofs.lemmas.List.Edits.{sets, sets-eq, paste_all}
use Rattle.std.proofs.lemmas.List.{set_comm, append_assoc}
use Rattle.std.proofs.lemmas.Slice.{put_mid-paste}
use borrow.Rule.Slice.PartMut.{put_mid}
use Rattle.numbers.specs.Kept.{Kept, kept-sets-behind}

-- WHAT STANDS
-- these numbers stand from i on
pub record Stored (s : List ℕ) (i : ℕ) (vs : List ℕ) : Type 0 where
  pub at : (j : ℕ) → j < length vs → get_or s (i + j) 0 ≡ get_or vs j 0

stored_at : (vs s : List ℕ) (i j : ℕ) → i + length vs ≤ length s → j < length vs → get_or (sets s i vs) (i + j) 0 ≡ get_or vs j 0
stored_at [] s i j h l = absurd (omega arith)
stored_at (v ∷ vs) s i zero h l =
    let k = (kept-sets-behind (set s i v) (suc i) vs 0 (suc i) (omega arith)).same i (omega arith) (omega arith) in
    rw (add-zero i) (k ∙ get_or-set_same s i v 0 (omega arith))
stored_at (v ∷ vs) s i (suc j) h l =
    let e : i + suc j ≡ suc i + j = omega arith in
    rw e (stored_at vs (set s i v) (suc i) j (rw (length-set s i v) (omega arith)) (omega arith))

pub stored-first : {s : List ℕ} {i v : ℕ} {vs : List ℕ} → Stored s i (v ∷ vs) → get_or s i 0 ≡ v
stored-first {i = i} h = rw (add-zero i) at (h.at 0 (omega arith))

pub stored-sets : (s : List ℕ) (i : ℕ) (vs : List ℕ) → i + length vs ≤ length s → Stored (sets s i vs) i vs
stored-sets s i vs h = record { at = λ j l. stored_at vs s i j h l }

pub stored-kept : {a b : ℕ} {s s' : List ℕ} (i : ℕ) (vs : List ℕ) → Kept a b s s' → a ≤ i → i + length vs ≤ b → Stored s i vs → Stored s' i vs
stored-kept i vs k l m h = record { at = λ j x. k.same (i + j) (omega arith) (omega arith) ∙ h.at j x }

pub stored-append : (s : List ℕ) (i : ℕ) (xs ys : List ℕ) → Stored s i (xs ++ ys) → Stored s i xs × Stored s (i + length xs) ys
stored-append s i xs ys h = (
  record { at = λ j l. h.at j (omega (arith, length-append xs ys)) ∙ get_or-append xs ys 0 j l },
  record {
    at = λ j l.
        let e : i + length xs + j ≡ i + (length xs + j) = omega arith in
        rw e (h.at (length xs + j) (omega (arith, length-append xs ys)) ∙ get_or-append-add xs ys j 0);
  },
)

-- RUNS
pub sets-append : (xs ys s : List ℕ) (i : ℕ) → sets s i (xs ++ ys) ≡ sets (sets s i xs) (i + length xs) ys
sets-append [] ys s i = rw add-zero
sets-append (x ∷ xs) ys s i = sets-append xs ys (set s i x) (suc i) ∙ ap (λ n. sets (sets (set s i x) (suc i) xs) n ys) (omega arith)

set-sets : (ys s : List ℕ) (i j x : ℕ) → i < j → set (sets s j ys) i x ≡ sets (set s i x) j ys
set-sets [] s i j x h = refl
set-sets (y ∷ ys) s i j x h = set-sets ys (set s j y) i (suc j) x (omega arith) ∙ ap (λ m. sets m (suc j) ys) (set_comm s j i y x (λ e. omega (arith, e)))

-- a run stored after the one behind it
pub sets-in-front : (xs ys s : List ℕ) (i : ℕ) → sets (sets s (i + length xs) ys) i xs ≡ sets s i (xs ++ ys)
sets-in-front [] ys s i = rw add-zero
sets-in-front (x ∷ xs) ys s i =
    ap (λ m. sets m (suc i) xs) (set-sets ys s i (i + length (x ∷ xs)) x (omega arith))
    ∙ ap (λ n. sets (sets (set s i x) n ys) (suc i) xs) (omega arith)
    ∙ sets-in-front xs ys (set s i x) (suc i)

-- A PART
-- n numbers copied over those from i on are n stores
pub part-stored : (i k : ℕ) (s ys xs : List ℕ) (n : ℕ) → ys ≡ xs → length xs ≡ n → k ≡ n → i + n ≤ length s
    → put_mid i k s ys ≡ sets s i xs
part-stored i k s ys xs n e m h l =
    put_mid-paste i k s ys xs n e (sym h) (sym m)
    ∙ paste_all s i xs n (sym m)
    ∙ sym (append_assoc (take i s) xs (drop (i + n) s))
    ∙ sym (rw m at (sets-eq xs s i (omega (arith, m, l))))

-- STORES ONE BY ONE
pub four-stores : (s : List ℕ) (i a b c d : ℕ) → set (set (set (set s i a) (i + 1) b) (i + 2) c) (i + 3) d ≡ sets s i (a ∷ b ∷ c ∷ d ∷ [])
four-stores s i a b c d =
    let e₁ : i + 1 ≡ suc i = omega arith in
    let e₂ : i + 2 ≡ suc (suc i) = omega arith in
    let e₃ : i + 3 ≡ suc (suc (suc i)) = omega arith in
    rw (e₁, e₂, e₃)

pub eight-stores : (s : List ℕ) (i k l n o a b c d : ℕ)
    → set (set (set (set (set (set (set (set s i k) (i + 1) l) (i + 2) n) (i + 3) o) (i + 4) a) (i + 5) b) (i + 6) c) (i + 7) d ≡ sets s i (k ∷ l ∷ n ∷ o ∷ a ∷ b ∷ c ∷ d ∷ [])
eight-stores s i k l n o a b c d =
    let e₁ : i + 1 ≡ suc i = omega arith in
    let e₂ : i + 2 ≡ suc (suc i) = omega arith in
    let e₃ : i + 3 ≡ suc (suc (suc i)) = omega arith in
    let e₄ : i + 4 ≡ suc (suc (suc (suc i))) = omega arith in
    let e₅ : i + 5 ≡ suc (suc (suc (suc (suc i)))) = omega arith in
    let e₆ : i + 6 ≡ suc (suc (suc (suc (suc (suc i))))) = omega arith in
    let e₇ : i + 7 ≡ suc (suc (suc (suc (suc (suc (suc i)))))) = omega arith in
    rw (e₁, e₂, e₃, e₄, e₅, e₆, e₇)
