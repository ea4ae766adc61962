-- Rows written behind those that stand in a lent slice.
use Rattle.std.specs.Prelude.{ℕ, suc, ◌+◌, ◌-◌, ◌≤◌, ◌<◌, ◌≡◌, refl, List, [], ◌∷◌, ◌++◌, length, take, drop, Option, Some, None}
use Rattle.std.proofs.Common.{arith, sym, ap, ◌∙◌, length-append, take_at, length-take-le}
use Rattle.std.proofs.lemmas.List.Edits.{sets, sets-eq}
use Rattle.std.proofs.Math.Seq.{length-sets, set_out}
use Prim.Native.Nat.{min}
use Rattle.numbers.specs.Stores.{sets-append}
use Rattle.ast.specs.declared.buffer.Rows.{Rows}

-- the rows that stand in it
abbrev pub rows_in : Rows → List ℕ
rows_in s = take s.used s.rows.now

-- xs stand behind the rows of s, in the same lent slice
pub record Listed (xs : List ℕ) (s t : Rows) : Type 0 where
  pub same : t.rows.ghost_name ≡ s.rows.ghost_name
  pub used : t.used ≡ s.used + length xs
  pub fits : t.used ≤ length t.rows.now
  pub rows : t.rows.now ≡ sets s.rows.now s.used xs

pub listed-none : (s : Rows) → s.used ≤ length s.rows.now → Listed [] s s
listed-none s h = record { same = refl; used = omega arith; fits = h; rows = refl }

-- the slice is as long as it was
pub listed-all : {xs : List ℕ} {s t : Rows} → Listed xs s t → length t.rows.now ≡ length s.rows.now
listed-all {xs} {s} a = rw a.rows (length-sets s.rows.now s.used xs)

-- one step after another
pub listed-on : {xs ys : List ℕ} {s t u : Rows} → Listed xs s t → Listed ys t u → Listed (xs ++ ys) s u
listed-on {xs} {ys} {s} a b = record {
  same = b.same ∙ a.same;
  used = rw (length-append xs ys) (omega (arith, a.used, b.used));
  fits = b.fits;
  rows = b.rows ∙ rw (a.rows, a.used) (sym (sets-append xs ys s.rows.now s.used));
}

pub listed-rows : {xs : List ℕ} {s t : Rows} → Listed xs s t → rows_in t ≡ rows_in s ++ xs
listed-rows {xs} {s} {t} a =
    let n : s.used + length xs ≤ length s.rows.now = omega (arith, a.used, a.fits, listed-all a) in
    let l : length (rows_in s ++ xs) ≡ t.used =
    omega (arith, length-append (rows_in s) xs, length-take-le s.used s.rows.now (omega (arith, n)), a.used) in
    rw (a.rows, sets-eq xs s.rows.now s.used n)
    (take_at (rows_in s ++ xs) (drop (s.used + length xs) s.rows.now) t.used l)

-- where none stood in it
pub listed-first : {xs : List ℕ} {s t : Rows} → s.used ≡ 0 → Listed xs s t → rows_in t ≡ xs
listed-first {xs} {s} e a = listed-rows a ∙ ap (λ n. take n s.rows.now ++ xs) e

-- xs are listed behind the rows of s once ys stand behind those of s'
pub record Listing (xs ys : List ℕ) (s s' : Rows) : Type 0 where
  pub room : s'.used + length ys ≤ length s'.rows.now
  pub rest : (u : Rows) → Listed ys s' u → Listed xs s u

pub listing-on : {xs ys zs : List ℕ} {s s' s'' : Rows} → Listing xs (ys ++ zs) s s' → Listed ys s' s''
    → Listing xs zs s s''
listing-on {ys = ys} {zs} k a = record {
  room = omega (arith, k.room, a.used, listed-all a, length-append ys zs);
  rest = λ u b. k.rest u (listed-on a b);
}

pub listing-end : {xs : List ℕ} {s s' : Rows} → Listing xs [] s s' → Listed xs s s'
listing-end {s' = s'} k = k.rest s' (listed-none s' (omega (arith, k.room)))

-- WITHIN THE ROOM
-- xs stand behind the rows of s as far as there is room; none where the next has no room
pub record ListedWithin (xs : List ℕ) (s : Rows) (r : Option Unit) (t : Rows) : Type 0 where
  pub same : t.rows.ghost_name ≡ s.rows.ghost_name
  pub used : t.used ≡ s.used + min (length xs) (length s.rows.now - s.used)
  pub rows : t.rows.now ≡ sets s.rows.now s.used xs
  pub all : r ≡ Some tt → length xs ≤ length s.rows.now - s.used
  pub full : r ≡ None → length s.rows.now - s.used < length xs

pub within-none : (s : Rows) → ListedWithin [] s (Some tt) s
within-none s = record { same = refl; used = omega arith; rows = refl; all = λ e. omega arith; full = λ e. cc }

module _ {xs : List ℕ} {s : Rows} {r : Option Unit} {t : Rows} (a : ListedWithin xs s r t) where
  within-all : length t.rows.now ≡ length s.rows.now
  within-all = rw a.rows (length-sets s.rows.now s.used xs)

  -- where there is room
  pub within-listed : s.used + length xs ≤ length s.rows.now → Listed xs s t
  within-listed h = record {
    same = a.same;
    used = omega (arith, a.used, h);
    fits = omega (arith, a.used, h, within-all);
    rows = a.rows;
  }

  -- one step after another
  pub within-on : {ys : List ℕ} {p : Option Unit} {u : Rows} → r ≡ Some tt → ListedWithin ys t p u
      → ListedWithin (xs ++ ys) s p u
  within-on {ys} e b =
      let l : length xs ≤ length s.rows.now - s.used = a.all e in
      let n : t.used ≡ s.used + length xs = omega (arith, a.used, l) in
      record {
        same = b.same ∙ a.same;
        used = omega (arith, b.used, n, l, within-all, length-append xs ys);
        rows = b.rows ∙ rw (a.rows, n) (sym (sets-append xs ys s.rows.now s.used));
        all = λ f. omega (arith, b.all f, n, l, within-all, length-append xs ys);
        full = λ f. omega (arith, b.full f, n, l, within-all, length-append xs ys);
      }

  pub within-full : (ys : List ℕ) → r ≡ None → ListedWithin (xs ++ ys) s None t
  within-full ys e =
      let l : length s.rows.now - s.used < length xs = a.full e in
      record {
        same = a.same;
        used = omega (arith, a.used, l, length-append xs ys);
        rows = a.rows ∙ sym (sets-append xs ys s.rows.now s.used
            ∙ sets-outside ys (sets s.rows.now s.used xs) (s.used + length xs)
            (omega (arith, l, length-sets s.rows.now s.used xs)));
        all = λ f. cc;
        full = λ f. omega (arith, l, length-append xs ys);
      }
    where
      -- nothing is written past the end
      sets-outside : (zs l : List ℕ) (n : ℕ) → length l ≤ n → sets l n zs ≡ l
      sets-outside [] l n h = refl
      sets-outside (z ∷ zs) l n h = rw (set_out l n z h) (sets-outside zs l (suc n) (omega arith))
