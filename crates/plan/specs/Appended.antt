-- Numbers appended behind the k of a slice that are in use; what stands behind them is not said.
use Rattle.std.specs.Prelude.{ℕ, suc, ◌+◌, ◌-◌, ◌≤◌, ◌≡◌, refl, List, [], ◌∷◌, ◌++◌, length, take, drop, set}
use Rattle.std.proofs.Common.{arith, sym, ◌∙◌, append_assoc, append-nil, length-append, length-set, take_at, length-take-le}
use Rattle.std.proofs.lemmas.List.Edits.{sets, sets-eq}
use Rattle.std.proofs.Math.Seq.{length-sets, take-set-lt}
use Rattle.std.proofs.lemmas.List.{set_at}

-- xs stand behind the k numbers of s; with them k' are in use
pub record Appended (xs : List ℕ) (k : ℕ) (s : List ℕ) (k' : ℕ) (s' : List ℕ) : Type 0 where
  pub next : k' ≡ k + length xs
  pub fits : k' ≤ length s
  pub all : length s' ≡ length s
  pub numbers : take k' s' ≡ take k s ++ xs

pub appended-none : (k : ℕ) (s : List ℕ) → k ≤ length s → Appended [] k s k s
appended-none k s h = record { next = omega arith; fits = h; all = refl; numbers = rw append-nil }

-- the next step begins with nothing
pub appended-start : {xs : List ℕ} {k i : ℕ} {s t : List ℕ} → Appended xs k s i t → Appended [] i t i t
appended-start {i = i} {t = t} a = appended-none i t (omega (arith, a.fits, a.all))

-- one step after another
pub appended-on : {xs ys : List ℕ} {k i j : ℕ} {s t u : List ℕ} → Appended xs k s i t → Appended ys i t j u
    → Appended (xs ++ ys) k s j u
appended-on {xs} {ys} {k} {i} {j} {s} {t} {u} a b = record {
  next = rw (length-append xs ys) (omega (arith, a.next, b.next));
  fits = omega (arith, b.fits, a.all);
  all = b.all ∙ a.all;
  numbers = b.numbers ∙ rw a.numbers (append_assoc (take k s) xs ys);
}

-- the same numbers, said otherwise
pub appended-as : {xs ys : List ℕ} {k i : ℕ} {s t : List ℕ} → xs ≡ ys → Appended xs k s i t → Appended ys k s i t
appended-as e a = rw (sym e) a

-- stores in a row
pub appended-sets : (xs s : List ℕ) (k j : ℕ) → j ≡ k + length xs → j ≤ length s → Appended xs k s j (sets s k xs)
appended-sets xs s k j e h =
    let l : length (take k s) ≡ k = length-take-le k s (omega (arith, e, h)) in
    let n : length (take k s ++ xs) ≡ j = rw (length-append (take k s) xs, l) (sym e) in
    record {
      next = e;
      fits = h;
      all = length-sets s k xs;
      numbers = rw (sets-eq xs s k (omega (arith, e, h))) (take_at (take k s ++ xs) (drop (k + length xs) s) j n);
    }

-- A COUNT: the place behind xs is given the number of those that stand behind it
pub appended-count : (xs r : List ℕ) (y i at k : ℕ) (s t t' : List ℕ) → Appended (xs ++ (y ∷ r)) i s k t
    → at ≡ i + length xs → t' ≡ set t at (k - (at + 1)) → Appended (xs ++ (length r ∷ r)) i s k t'
appended-count xs r y i at k s t t' a e f =
    let n : k ≡ i + (length xs + suc (length r)) = rw (← length-append xs (y ∷ r)) a.next in
    let v : k - (at + 1) ≡ length r = omega (arith, n, e) in
    let p : length (take i s) ≡ i = length-take-le i s (omega (arith, n, a.fits)) in
    let q : length (take i s ++ xs) ≡ at = rw (length-append (take i s) xs, p) (sym e) in
    let w : take i s ++ (xs ++ (length r ∷ r)) ≡ (take i s ++ xs) ++ (length r ∷ r) =
    sym (append_assoc (take i s) xs (length r ∷ r)) in
    record {
      next = rw (length-append xs (length r ∷ r)) n;
      fits = a.fits;
      all = rw (f, length-set t at (k - (at + 1))) a.all;
      numbers = rw (
        f,
        v,
        w,
        take-set-lt k t at (length r) (omega (arith, n, e)),
        a.numbers,
        ← append_assoc (take i s) xs (y ∷ r),
      ) (set_at (take i s ++ xs) y r (length r) at q);
    }
