-- Columns and tables keep their meaning where other numbers are stored.
use Prim.Native.Nat.{ℕ, zero, suc, ◌+◌, ◌≤◌, ◌<◌}
use Rattle.std.proofs.Common.{arith, ap}
use Rattle.std.specs.Prelude.{◌≡◌, List, [], ◌∷◌, ◌++◌, get_or}
use Rattle.std.proofs.Math.Path.{refl}
use Rattle.rules.specs.Lists.{Bytes}
use Rattle.numbers.specs.Kept.{Kept, kept-part}
use Rattle.schema.specs.Layout.{table_start, column_start, column_of, columns_at, table_at, tables_at}
use Rattle.schema.specs.Records.{names}

-- COLUMNS
module _ (c q : Bytes) {s s' : List ℕ} where
  column-kept : (i : ℕ) → Kept i (i + 7) s s' → column_of c q s' i ≡ column_of c q s i
  unfolding column_of
  column-kept i h =
      let e₀ = h.same i (omega arith) (omega arith) in
      let e₁ = h.same (i + 1) (omega arith) (omega arith) in
      let e₂ = h.same (i + 2) (omega arith) (omega arith) in
      let e₃ = h.same (i + 3) (omega arith) (omega arith) in
      let e₄ = h.same (i + 4) (omega arith) (omega arith) in
      let e₅ = h.same (i + 5) (omega arith) (omega arith) in
      let e₆ = h.same (i + 6) (omega arith) (omega arith) in
      rw (e₀, e₁, e₂, e₃, e₄, e₅, e₆)

  -- columns before the m-th
  pub columns-kept : (m j n : ℕ) → Kept 161 (column_start m) s s' → j + n ≤ m → columns_at c q s' j n ≡ columns_at c q s j n
  unfolding columns_at
  columns-kept m j zero h l = refl
  columns-kept m j (suc n) h l = rw (column-kept (column_start j) (kept-part _ _ h (omega arith) (omega arith)), columns-kept m (suc j) n h (omega arith))

-- one column more
pub columns-more : (c q : Bytes) (s : List ℕ) (j n : ℕ) → columns_at c q s j (suc n) ≡ columns_at c q s j n ++ (column_of c q s (column_start (j + n)) ∷ [])
unfolding columns_at
columns-more c q s j zero = let e : j + 0 ≡ j = omega arith in rw e
columns-more c q s j (suc n) = let e : j + suc n ≡ suc j + n = omega arith in rw e (ap (λ r. column_of c q s (column_start j) ∷ r) (columns-more c q s (suc j) n))

-- TABLES
-- the columns of the first n tables lie before the m-th
pub record Ranges (s : List ℕ) (n m : ℕ) : Type 0 where
  pub end : (i : ℕ) → i < n → get_or s (table_start i + 3) 0 + get_or s (table_start i + 4) 0 ≤ m

module _ {s s' : List ℕ} {n m : ℕ} (r : Ranges s n m) (h : Kept 1 (table_start n) s s') where
  table-number : (i k : ℕ) → i < n → k < 5 → get_or s' (table_start i + k) 0 ≡ get_or s (table_start i + k) 0
  table-number i k l o = h.same (table_start i + k) (omega arith) (omega arith)

  table-first : (i : ℕ) → i < n → get_or s' (table_start i) 0 ≡ get_or s (table_start i) 0
  table-first i l = h.same (table_start i) (omega arith) (omega arith)

  pub names-kept : (t : Bytes) (i : ℕ) → i ≤ n → names t s' i ≡ names t s i
  unfolding names
  names-kept t zero l = refl
  names-kept t (suc i) l = rw (table-first i (omega arith), table-number i 1 (omega arith) (omega arith), names-kept t i (omega arith))

  pub ranges-kept : Ranges s' n m
  ranges-kept = record { end = λ i l. rw (table-number i 3 l (omega arith), table-number i 4 l (omega arith)) (r.end i l) }

  module _ (c q : Bytes) (g : Kept 161 (column_start m) s s') where
    table_kept : (i : ℕ) → i < n → table_at c q s' i ≡ table_at c q s i
    unfolding table_at
    table_kept i l =
        rw (
          table-first i l,
          table-number i 1 l (omega arith),
          table-number i 2 l (omega arith),
          table-number i 3 l (omega arith),
          table-number i 4 l (omega arith),
          columns-kept c q m _ _ g (r.end i l),
        )

    pub tables-kept : (i k : ℕ) → i + k ≤ n → tables_at c q s' i k ≡ tables_at c q s i k
    unfolding tables_at
    tables-kept i zero l = refl
    tables-kept i (suc k) l = rw (table_kept i (omega arith), tables-kept (suc i) k (omega arith))

-- one table more
pub tables_more : (c q : Bytes) (s : List ℕ) (i n : ℕ) → tables_at c q s i (suc n) ≡ tables_at c q s i n ++ (table_at c q s (i + n) ∷ [])
unfolding tables_at
tables_more c q s i zero = let e : i + 0 ≡ i = omega arith in rw e
tables_more c q s i (suc n) = let e : i + suc n ≡ suc i + n = omega arith in rw e (ap (λ r. table_at c q s i ∷ r) (tables_more c q s (suc i) n))
