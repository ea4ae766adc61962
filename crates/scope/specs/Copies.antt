-- Labels stored one after another, and all at once.
use Rattle.std.specs.Prelude.{ℕ, suc, ◌+◌, ◌≤◌, ◌<◌, ◌≡◌, refl, List, [], ◌∷◌, ◌++◌, map, length, get_or, take, drop, set}
use Rattle.std.proofs.Common.{arith, add-one, add-zero, ap, sym, ◌∙◌, append_assoc, append-nil, length-set, take-suc-set, take-suc, take_all, take_at, length-append, length-drop}
use Rattle.std.proofs.lemmas.List.{length-map, get_or-map}
use Rattle.rules.specs.Limits.{most_columns}

-- i of the labels xs are stored in ls behind the n of p
pub record Copying (p : List ℕ) (n : ℕ) (xs : List ℕ) (i : ℕ) (ls : List ℕ) : Type 0 where
  pub room : length ls ≡ most_columns
  pub labels : take (n + i) ls ≡ p ++ take i xs

pub copying-begin : {p : List ℕ} {n : ℕ} (xs : List ℕ) {ls : List ℕ} → length ls ≡ most_columns → take n ls ≡ p
    → Copying p n xs 0 ls
copying-begin {p} {n} xs h e = record { room = h; labels = rw (add-zero n, append-nil) e }

pub copying-more : {p : List ℕ} {n : ℕ} {xs : List ℕ} {i : ℕ} {ls : List ℕ} (k v : ℕ) → Copying p n xs i ls
    → k ≡ n + i → n + i < most_columns → i < length xs → v ≡ get_or xs i 0 → Copying p n xs (i + 1) (set ls k v)
copying-more {p} {n} {xs} {i} {ls} k v t y h g e =
    let l : n + i < length ls = omega (arith, t.room) in
    let z : n + suc i ≡ suc (n + i) = omega arith in
    rw y (record {
      room = length-set ls (n + i) v ∙ t.room;
      labels = rw (add-one i, z, take-suc-set ls (n + i) v l, t.labels, take-suc xs i 0 g, e)
          (append_assoc p (take i xs) (get_or xs i 0 ∷ []));
    })

-- from the start on
pub copying-first : {xs : List ℕ} {j : ℕ} {ls : List ℕ} (v : ℕ) → Copying [] 0 xs j ls → j < most_columns → j < length xs
    → v ≡ get_or xs j 0 → Copying [] 0 xs (j + 1) (set ls j v)
copying-first {xs} {j} {ls} v t h g e = copying-more j v t (omega arith) (omega arith) g e

-- what f makes of each of the numbers xs
pub copying-map : (f : ℕ → ℕ) (xs : List ℕ) {j : ℕ} {ls : List ℕ} (v : ℕ) → Copying [] 0 (map f xs) j ls
    → j < most_columns → j < length xs → v ≡ f (get_or xs j 0) → Copying [] 0 (map f xs) (j + 1) (set ls j v)
copying-map f xs {j} {ls} v t h g e =
    copying-first v t h (omega (arith, length-map xs f)) (e ∙ sym (get_or-map f xs j 0 0 g))

-- all are stored
pub stored : {xs : List ℕ} {j n w : ℕ} {ls : List ℕ} → Copying [] 0 xs j ls → w ≡ n → length xs ≡ n → j ≤ n → n ≤ j
    → take w ls ≡ xs
stored {xs} {j} {n} {w} {ls} k e l h g =
    let z : w ≡ 0 + j = omega arith in
    ap (λ i. take i ls) z ∙ k.labels ∙ take_all j xs (omega arith)

-- the labels xs stand in ls before what else there was in l
pub record Overwritten (xs l ls : List ℕ) : Type 0 where
  pub is : ls ≡ xs ++ drop (length xs) l

pub overwritten : {xs l ls : List ℕ} → ls ≡ take 0 l ++ (xs ++ drop (0 + length xs) l) → Overwritten xs l ls
overwritten {xs} {l} {ls} h =
    let z : 0 + length xs ≡ length xs = omega arith in
    record { is = rw z at h }

module _ {xs l ls : List ℕ} (o : Overwritten xs l ls) where
  pub overwritten-labels : (w : ℕ) → w ≡ length xs → take w ls ≡ xs
  overwritten-labels w e = rw (e, o.is) (take_at xs (drop (length xs) l) (length xs) refl)

  pub overwritten-room : length xs ≤ length l → length ls ≡ length l
  overwritten-room h = rw o.is (omega (arith, length-append xs (drop (length xs) l), length-drop (length xs) l, h))
