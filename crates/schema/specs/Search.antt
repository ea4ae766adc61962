-- The lookups: of a table and of a column by its name, from where a search has come to; of the column at a position.
use Prim.Native.Nat.{ℕ, zero, suc, ◌+◌, ◌-◌, ◌≤◌, ◌<◌}
use native.Mathlib.Omega.{arith}
use Rattle.std.proofs.Math.Numerals.{add-one}
use Rattle.std.specs.Prelude.{◌≡◌, Bool, List, [], ◌∷◌, length, get_or, Some, None}
use Rattle.std.specs.Prelude as std
use Rattle.std.proofs.Math.Path.{refl, sym}
use Rattle.std.proofs.Common.{ap, subst, ◌∙◌, ok_or}
use Rattle.std.proofs.Math.Bool.{true, false}
use Rattle.std.proofs.Math.Option.{Option, none, some}
use Rattle.std.proofs.Math.Dec.{ltb}
use borrow.Author.Tests.{lt-ltb, le-ltb, ltb-true, ltb-false}
use Rattle.rules.specs.Lists.{Bytes, same, entry_after, map_option}
use Rattle.rules.specs.Lines.{Word}
use Rattle.rules.specs.Schema.{Column, Table, Catalog, get_table, column_at, default_at}
use Rattle.rules.specs.Places.{bytes_at, word_at}
use Rattle.numbers.specs.Values.{default_of}
use Rattle.numbers.specs.declared.refusals.Reason.TheVariants.{UnknownTable}
use Rattle.numbers.specs.declared.refusals.Refusal.{Refusal}
use Rattle.schema.specs.Layout.{table_start, column_start, column_of, columns_at, table_at, tables_at, catalog_at}

-- what was found: a position, or none
unfoldable pub found_of : std.Option ℕ → Option ℕ
found_of (Some i) = some i
found_of None = none

-- with the table that stands there
unfoldable pub found_table : Bytes → Bytes → List ℕ → std.Option ℕ → Option (ℕ × Table)
found_table c q s (Some i) = some (i, table_at c q s i)
found_table c q s None = none

cut : (n i : ℕ) → i < n → n - i ≡ suc (n - (i + 1))
cut n i h = omega arith

-- TABLES
-- the first table of a name, and its position, from position i on
unfoldable pub table_from : ℕ → Catalog → Bytes → Option (ℕ × Table)
table_from i [] n = none
table_from i (t ∷ ts) n = elim (same t.name.bytes n) [ true ↦ some (i, t) | false ↦ table_from (suc i) ts n ]

-- that table is the one that the rules find
pub table-found : (i : ℕ) (c : Catalog) (n : Bytes)
    → map_option (λ (r : ℕ × Table). r.1) (table_from i c n) ≡ get_table c n
unfolding table_from get_table map_option
table-found i [] n = refl
table-found i (t ∷ ts) n = pick (same t.name.bytes n) (table-found (suc i) ts n)
  where
    pick : (b : Bool) → map_option (λ (r : ℕ × Table). r.1) (table_from (suc i) ts n) ≡ get_table ts n
        → map_option (λ (r : ℕ × Table). r.1) (elim b [ true ↦ some (i, t) | false ↦ table_from (suc i) ts n ])
        ≡ elim b [ true ↦ some t | false ↦ get_table ts n ]
    pick true e = refl
    pick false e = e

-- and it stands in the catalog at that position
pub table-position : (i : ℕ) (c : Catalog) (n : Bytes) (r : ℕ × Table) → table_from i c n ≡ some r
    → (i ≤ r.0) × (entry_after (r.0 - i) c ≡ some r.1)
unfolding table_from entry_after
table-position i [] n r e = grind arith
table-position i (t ∷ ts) n r e = pick (same t.name.bytes n) e (table-position (suc i) ts n r)
  where
    Stands : ℕ × Table → Type 0
    Stands r = (i ≤ r.0) × (entry_after (r.0 - i) (t ∷ ts) ≡ some r.1)

    pick : (b : Bool)
        → ◌≡◌ {A = Option (ℕ × Table)} (elim b [ true ↦ some (i, t) | false ↦ table_from (suc i) ts n ]) (some r)
        → (table_from (suc i) ts n ≡ some r → (suc i ≤ r.0) × (entry_after (r.0 - suc i) ts ≡ some r.1)) → Stands r
    pick true h f =
        let e : ◌≡◌ {A = ℕ × Table} (i, t) r = cc in
        let z : i - i ≡ 0 = omega arith in
        subst Stands e (omega arith, rw z)
    pick false h f =
        let z : r.0 - i ≡ suc (r.0 - suc i) = omega (arith, (f h).0) in
        (omega (arith, (f h).0), rw z (f h).1)

-- the i-th of n tables is looked at next
pub record TableSearch (c q : Bytes) (s : List ℕ) (x : Bytes) (n i : ℕ) : Type 0 where
  pub rest : table_from i (tables_at c q s i (n - i)) x ≡ table_from 0 (tables_at c q s 0 n) x

pub table-begin : (c q : Bytes) (s : List ℕ) (x : Bytes) (n : ℕ) → TableSearch c q s x n 0
table-begin c q s x n = let z : n - 0 ≡ n = omega arith in record { rest = rw z }

module _ {c q : Bytes} {s : List ℕ} {x : Bytes} {n i : ℕ} (t : TableSearch c q s x n i) where
  -- b tells whether the name that stands there is x
  module _ {a m : ℕ} {b : Bool} (h : i < n) (ea : a ≡ get_or s (table_start i) 0) (em : m ≡ get_or s (table_start i + 1) 0) (eb : b ≡ same (bytes_at c q a m) x) where
    pub table-hit : b ≡ true → found_table c q s (Some i) ≡ table_from 0 (tables_at c q s 0 n) x
    unfolding tables_at table_from table_at word_at found_table
    table-hit e = rw (cut n i h, table_from, ← ea, ← em, ← eb, e) at t.rest

    pub table-miss : b ≡ false → TableSearch c q s x n (i + 1)
    unfolding tables_at table_from table_at word_at
    table-miss e = record { rest = rw (add-one i) (rw (cut n i h, table_from, ← ea, ← em, ← eb, e, add-one i) at t.rest) }

  pub table-end : n ≤ i → found_table c q s None ≡ table_from 0 (tables_at c q s 0 n) x
  unfolding tables_at table_from found_table
  table-end h = let e : n - i ≡ 0 = omega arith in rw e at t.rest

-- whether the name of the i-th table is x
unfoldable pub table_named : Bytes → Bytes → List ℕ → Bytes → ℕ → Bool
table_named c q s x i = same (bytes_at c q (get_or s (table_start i) 0) (get_or s (table_start i + 1) 0)) x

-- where the first of n tables of the name x stands
abbrev pub FirstTable : Bytes → Bytes → List ℕ → Bytes → ℕ → std.Option ℕ → Type 0
FirstTable c q s x n r = std.MatchOption r ((k : ℕ) → 0 ≤ k → k < n → table_named c q s x k ≡ false)
    (λ i. (0 ≤ i) × (i < n) × (table_named c q s x i ≡ true) × ((k : ℕ) → 0 ≤ k → k < i → table_named c q s x k ≡ false))

module _ (c q : Bytes) (s : List ℕ) (x : Bytes) (n : ℕ) where
  tables-passed : (i : ℕ) → i ≤ n → ((k : ℕ) → 0 ≤ k → k < i → table_named c q s x k ≡ false) → TableSearch c q s x n i
  unfolding table_named
  tables-passed zero l h = table-begin c q s x n
  tables-passed (suc i) l h =
      rw (add-one i) at (table-miss (tables-passed i (omega arith) (λ k a b. h k a (omega arith))) (omega arith) refl refl refl (h i (omega arith) (omega arith)))

  pub table-first : (r : std.Option ℕ) → FirstTable c q s x n r → found_table c q s r ≡ table_from 0 (tables_at c q s 0 n) x
  unfolding table_named
  table-first None h = table-end (tables-passed n (omega arith) h) (omega arith)
  table-first (Some i) h = table-hit (tables-passed i (omega (arith, h.1)) h.3) h.1 refl refl refl h.2

-- the position of the first table of the name x, or the refusal at line l where there is none
pub record TablePosition (c q : Bytes) (s : List ℕ) (x : Bytes) (l : ℕ) (r : std.Result ℕ Refusal) : Type 0 where
  pub is : std.MatchResult r (λ i. found_table c q s (Some i) ≡ table_from 0 (catalog_at c q s) x)
      (λ w. (found_table c q s None ≡ table_from 0 (catalog_at c q s) x) × (w ≡ record { reason = UnknownTable; line = l }))

module _ {c q : Bytes} {s : List ℕ} {x : Bytes} {l : ℕ} where
  pub position-of : (r : std.Option ℕ) → found_table c q s r ≡ table_from 0 (catalog_at c q s) x
      → TablePosition c q s x l (ok_or r (record { reason = UnknownTable; line = l }))
  position-of (Some i) f = record { is = f }
  position-of None f = record { is = (f, refl) }

  module _ {r : std.Result ℕ Refusal} (p : TablePosition c q s x l r) where
    pub position-found : (i : ℕ) → r ≡ std.Ok i → found_table c q s (Some i) ≡ table_from 0 (catalog_at c q s) x
    position-found i e = rw e at p.is

    pub position-missing : (w : Refusal) → r ≡ std.Err w
        → (found_table c q s None ≡ table_from 0 (catalog_at c q s) x) × (w ≡ record { reason = UnknownTable; line = l })
    position-missing w e = rw e at p.is

-- COLUMNS
-- the j-th of n columns of a table, which start with the f-th of all, is looked at next
pub record ColumnSearch (c q : Bytes) (s : List ℕ) (x : Bytes) (i f n j : ℕ) : Type 0 where
  pub rest : column_at j (columns_at c q s (f + j) (n - j)) x ≡ column_at 0 (table_at c q s i).columns x

pub column-begin : (c q : Bytes) (s : List ℕ) (x : Bytes) (i f n : ℕ) → f ≡ get_or s (table_start i + 3) 0 → n ≡ get_or s (table_start i + 4) 0 → ColumnSearch c q s x i f n 0
unfolding table_at
column-begin c q s x i f n e g = let y : f + 0 ≡ get_or s (table_start i + 3) 0 = omega (arith, e) in let z : n - 0 ≡ get_or s (table_start i + 4) 0 = omega (arith, g) in record { rest = rw (y, z) }

module _ {c q : Bytes} {s : List ℕ} {x : Bytes} {i f n j : ℕ} (t : ColumnSearch c q s x i f n j) where
  -- b tells whether the name that stands there is x
  module _ {a m : ℕ} {b : Bool} (h : j < n) (ea : a ≡ get_or s (column_start (f + j)) 0) (em : m ≡ get_or s (column_start (f + j) + 1) 0) (eb : b ≡ same (bytes_at c q a m) x) where
    pub column-hit : b ≡ true → found_of (Some j) ≡ column_at 0 (table_at c q s i).columns x
    unfolding columns_at column_at column_of word_at found_of
    column-hit e = rw (cut n j h, column_at, ← ea, ← em, ← eb, e) at t.rest

    pub column-miss : b ≡ false → ColumnSearch c q s x i f n (j + 1)
    unfolding columns_at column_at column_of word_at
    column-miss e = let z : f + suc j ≡ suc (f + j) = omega arith in record { rest = rw (add-one j, z) (rw (cut n j h, column_at, ← ea, ← em, ← eb, e, add-one j) at t.rest) }

  pub column-end : n ≤ j → found_of None ≡ column_at 0 (table_at c q s i).columns x
  unfolding columns_at column_at found_of
  column-end h = let e : n - j ≡ 0 = omega arith in rw e at t.rest

-- whether the name of the j-th column of all is x
unfoldable pub column_named : Bytes → Bytes → List ℕ → Bytes → ℕ → Bool
column_named c q s x j = same (bytes_at c q (get_or s (column_start j) 0) (get_or s (column_start j + 1) 0)) x

-- where the first column of a table of the name x stands
module _ (c q : Bytes) (s : List ℕ) (x : Bytes) (i f n : ℕ) (ef : f ≡ get_or s (table_start i + 3) 0) (en : n ≡ get_or s (table_start i + 4) 0) where
  columns-passed : (j : ℕ) → j ≤ n → ((k : ℕ) → 0 ≤ k → k < j → column_named c q s x (f + k) ≡ false) → ColumnSearch c q s x i f n j
  unfolding column_named
  columns-passed zero l h = column-begin c q s x i f n ef en
  columns-passed (suc j) l h =
      rw (add-one j) at (column-miss (columns-passed j (omega arith) (λ k a b. h k a (omega arith))) (omega arith) refl refl refl (h j (omega arith) (omega arith)))

  pub column-first : (r : std.Option ℕ)
      → std.MatchOption r ((k : ℕ) → 0 ≤ k → k < n → column_named c q s x (f + k) ≡ false)
      (λ j. (0 ≤ j) × (j < n) × (column_named c q s x (f + j) ≡ true) × ((k : ℕ) → 0 ≤ k → k < j → column_named c q s x (f + k) ≡ false))
      → found_of r ≡ column_at 0 (table_at c q s i).columns x
  unfolding column_named
  column-first None h = column-end (columns-passed n (omega arith) h) (omega arith)
  column-first (Some j) h = column-hit (columns-passed j (omega (arith, h.1)) h.3) h.1 refl refl refl h.2

-- ONE COLUMN
-- where the numbers of the j-th column of the i-th table start, if there is such a column
unfoldable pub start_of : List ℕ → ℕ → ℕ → std.Option ℕ
start_of s i j = elim (ltb j (get_or s (table_start i + 4) 0)) [ true ↦ Some (column_start (get_or s (table_start i + 3) 0 + j)) | false ↦ None ]

-- the name of the j-th column, or the empty word
unfoldable pub name_at : Bytes → Bytes → List Column → ℕ → Word
name_at c q cs j = elim (entry_after j cs) [ some x ↦ x.name | none ↦ word_at c q 0 0 ]

entry_in : (c q : Bytes) (s : List ℕ) (f n i : ℕ) → i < n → entry_after i (columns_at c q s f n) ≡ some (column_of c q s (column_start (f + i)))
unfolding columns_at entry_after
entry_in c q s f zero i h = absurd (omega arith)
entry_in c q s f (suc n) zero h = let e : f + 0 ≡ f = omega arith in rw e
entry_in c q s f (suc n) (suc i) h = let e : f + suc i ≡ suc f + i = omega arith in rw e (entry_in c q s (suc f) n i (omega arith))

entry-out : (c q : Bytes) (s : List ℕ) (f n i : ℕ) → n ≤ i → entry_after i (columns_at c q s f n) ≡ none
unfolding columns_at entry_after
entry-out c q s f zero i h = refl
entry-out c q s f (suc n) zero h = absurd (omega arith)
entry-out c q s f (suc n) (suc i) h = entry-out c q s (suc f) n i (omega arith)

default-entry : (cs : List Column) (i : ℕ) → default_at cs i ≡ elim (entry_after i cs) [ some x ↦ x.default | none ↦ none ]
unfolding default_at entry_after
default-entry [] i = refl
default-entry (c ∷ cs) zero = refl
default-entry (c ∷ cs) (suc i) = default-entry cs i

never : {i : ℕ} → None ≡ Some i → ⊥
never e = let z : ◌≡◌ {A = ℕ} 0 1 = cc in omega arith

at_same : {i j : ℕ} → Some i ≡ Some j → i ≡ j
at_same e = cc

module _ (s : List ℕ) (i j : ℕ) where
  pub start-in : {f n : ℕ} → f ≡ get_or s (table_start i + 3) 0 → n ≡ get_or s (table_start i + 4) 0 → j < n → Some (column_start (f + j)) ≡ start_of s i j
  unfolding start_of
  start-in e g h = sym (rw (start_of, ← g, lt-ltb _ _ h, ← e))

  pub start-out : {n : ℕ} → n ≡ get_or s (table_start i + 4) 0 → n ≤ j → None ≡ start_of s i j
  unfolding start_of
  start-out g h = sym (rw (start_of, ← g, le-ltb _ _ h))

  -- by whether there is such a column
  by-start : {A : Type 0} (r : std.Option ℕ) → r ≡ start_of s i j
      → (j < get_or s (table_start i + 4) 0 → r ≡ Some (column_start (get_or s (table_start i + 3) 0 + j)) → A) → (get_or s (table_start i + 4) 0 ≤ j → r ≡ None → A) → A
  unfolding start_of
  by-start {A} r e f g = go (ltb j (get_or s (table_start i + 4) 0)) refl
    where
      go : (b : Bool) → ltb j (get_or s (table_start i + 4) 0) ≡ b → A
      go true h = f (ltb-true _ _ h) (e ∙ (rw (start_of, h)))
      go false h = g (ltb-false _ _ h) (e ∙ (rw (start_of, h)))

  module _ (c q : Bytes) where
    pub name-missing : None ≡ start_of s i j → word_at c q 0 0 ≡ name_at c q (table_at c q s i).columns j
    unfolding name_at table_at
    name-missing e = by-start None e
        (λ h z. absurd (never z))
        (λ h z. rw (name_at, entry-out c q s _ _ j h))

    pub default-missing : None ≡ start_of s i j → none ≡ default_at (table_at c q s i).columns j
    unfolding table_at
    default-missing e = by-start None e
        (λ h z. absurd (never z))
        (λ h z. rw (default-entry, entry-out c q s _ _ j h))

    module _ {k : ℕ} (e : Some k ≡ start_of s i j) where
      pub name-there : word_at c q (get_or s k 0) (get_or s (k + 1) 0) ≡ name_at c q (table_at c q s i).columns j
      unfolding name_at table_at column_of
      name-there = by-start (Some k) e
          (λ h z. rw (at_same z, name_at, entry_in c q s _ _ j h))
          (λ h z. absurd (never (sym z)))

      pub default-there : {a x y : ℕ} → a ≡ get_or s (k + 4) 0 → x ≡ get_or s (k + 5) 0 → y ≡ get_or s (k + 6) 0 → default_of c q a x y ≡ default_at (table_at c q s i).columns j
      unfolding table_at column_of default_of
      default-there ea ex ey = by-start (Some k) e
          (λ h z. rw (ea, ex, ey, default-entry, at_same z, entry_in c q s _ _ j h))
          (λ h z. absurd (never (sym z)))

-- how many columns there are
pub columns-length : (c q : Bytes) (s : List ℕ) (j n : ℕ) → length (columns_at c q s j n) ≡ n
unfolding columns_at
columns-length c q s j zero = refl
columns-length c q s j (suc n) = ap suc (columns-length c q s (suc j) n)

pub columns-counted : (c q : Bytes) (s : List ℕ) (i : ℕ) → length (table_at c q s i).columns ≡ get_or s (table_start i + 4) 0
unfolding table_at
columns-counted c q s i = columns-length c q s _ _
