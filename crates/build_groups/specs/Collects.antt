-- Rows listed behind others, a few at a time.
use Rattle.std.specs.Prelude.{ℕ, ◌+◌, ◌-◌, ◌≤◌, ◌<◌, ◌≡◌, List, [], ◌∷◌, ◌++◌, length, Option, Some, None}
use Rattle.std.proofs.Common.{arith, ap, append-nil, length-append}
use Rattle.rules.specs.Lists.{Bytes}
use Rattle.ast.specs.Collect.{collect_rows}
use Rattle.ast.specs.Listed.{Listed, Listing, listing-on, listing-end, ListedWithin, within-listed}
use Rattle.ast.specs.declared.buffer.Rows.{Rows}
use Rattle.sections.specs.Access.{item_kind, having_kind, order_kind, numbers_at}
use Rattle.sections.specs.Expressions.{expr_row}
use Rattle.sections.specs.declared.entry.Entry.{Entry}
use Rattle.statement.specs.EntryAccess.{clause_at}
use Rattle.statement.specs.declared.access.Clause.{Clause}
use Rattle.build_groups.specs.Rows.{entry_rows, entries_none, entries-more, section_rows, clause_rows}
use Rattle.build_groups.specs.Rows.{collect_each_rows, function_rows}

-- the aggregates of a tree, with room for all
collect-on : {xs ys zs : List ℕ} {s s' s'' : Rows} {r : Option Unit} → Listing xs (ys ++ zs) s s'
    → ListedWithin ys s' r s'' → Listing xs zs s s''
collect-on {ys = ys} {zs} k a = listing-on k (within-listed a (omega (arith, k.room, length-append ys zs)))

-- THE ROWS of the entries from the i-th on
module _ {xs : List ℕ} (parts : List ℕ) (kind i n : ℕ) {s s' : Rows}
    (k : Listing xs (entry_rows parts kind i (n - i)) s s') where
  pub row_room : i < n → s'.used + 1 ≤ length s'.rows.now
  row_room l = omega (arith, k.room, ap length (entries-more parts kind i n l))

  pub row_put : {e : Entry} {r : ℕ} {s'' : Rows} → i < n → e ≡ numbers_at parts kind i → r ≡ expr_row e
      → Listed (r ∷ []) s' s'' → Listing xs (entry_rows parts kind (i + 1) (n - (i + 1))) s s''
  row_put l f g a = listing-on (rw (entries-more parts kind i n l, ← f, ← g) at k) a

  pub rows_end : n ≤ i → Listed xs s s'
  rows_end l = listing-end (rw (entries_none parts kind i n l) at k)

-- AGGREGATES of the entries from the i-th on
module _ (c q : Bytes) (t parts : List ℕ) (kind i n : ℕ) {xs : List ℕ} {s s' : Rows}
    (k : Listing xs (collect_each_rows c q t (entry_rows parts kind i (n - i))) s s') where
  pub collect-put : {e : Entry} {r : ℕ} {o : Option Unit} {s'' : Rows} → i < n → e ≡ numbers_at parts kind i
      → r ≡ expr_row e → ListedWithin (collect_rows c q t r) s' o s''
      → Listing xs (collect_each_rows c q t (entry_rows parts kind (i + 1) (n - (i + 1)))) s s''
  unfolding collect_each_rows
  collect-put l f g a = collect-on (rw (entries-more parts kind i n l, ← f, ← g, collect_each_rows) at k) a

  pub collect-end : n ≤ i → Listed xs s s'
  unfolding collect_each_rows
  collect-end l = listing-end (rw (entries_none parts kind i n l, collect_each_rows) at k)

-- ALL AGGREGATES
module _ (c q : Bytes) (t parts : List ℕ) where
  abbrev items : List ℕ
  items = collect_each_rows c q t (section_rows parts item_kind)

  abbrev keys : List ℕ
  keys = collect_each_rows c q t (section_rows parts order_kind)

  abbrev having : Option Clause → List ℕ
  having x = collect_each_rows c q t (clause_rows x)

  module _ (s : Rows) (h : s.used + length (function_rows c q t parts) ≤ length s.rows.now) where
    pub items-room : s.used + length items ≤ length s.rows.now
    unfolding function_rows
    items-room = omega (arith, h, length-append items (having (clause_at parts having_kind) ++ keys))

    module _ {s₁ : Rows} (a : Listed items s s₁) {x : Option Clause} (e : x ≡ clause_at parts having_kind) where
      after-items : Listing (function_rows c q t parts) (having x ++ keys) s s₁
      unfolding function_rows
      after-items = rw e (listing-on (record { room = h; rest = λ u b. b }) a)

      pub having-none : x ≡ None → Listing (function_rows c q t parts) keys s s₁
      unfolding collect_each_rows clause_rows
      having-none g = rw g at after-items

      pub having-some : {clause : Clause} {o : Option Unit} {s₂ : Rows} → x ≡ Some clause
          → ListedWithin (collect_rows c q t clause.row) s₁ o s₂ → Listing (function_rows c q t parts) keys s s₂
      unfolding collect_each_rows clause_rows
      having-some {clause} g b = collect-on (rw (g, append-nil (collect_rows c q t clause.row)) at after-items) b
