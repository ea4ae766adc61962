-- What the stage of groups and aggregates needs, and the rows that it retains.
use Rattle.std.specs.Prelude.{ℕ, ◌+◌, ◌*◌, ◌-◌, ◌≤◌, ◌<◌, ◌≡◌, Bool, true, false, List, [], ◌∷◌, ◌++◌, length, take, drop}
use Rattle.std.proofs.Common.{arith, sym, ap, ◌∙◌, length-append, length-drop, length-take-le, take_all, take_at, drop_at}
use Rattle.rules.specs.Limits.{most_columns, most_entries, most_cells}
use Rattle.rules.specs.Lists.{Bytes}
use Rattle.rules.specs.Ast.{Expr, size}
use Rattle.rules.specs.Sizes.{total}
use Rattle.ast.specs.Table.{table_size, tree_at}
use Rattle.scope.specs.Scopes.{Valid}
use Rattle.ast.specs.Listed.{rows_in, Listed, listed-all, listed-rows, listed-first}
use Rattle.ast.specs.declared.buffer.Rows.{Rows}
use Rattle.scope.specs.Retain.{has_equal, retained, retained-length}
use Rattle.scope.specs.AddAggregates.{Aggregable}
use Rattle.scope.specs.declared.Scope.{Scope}
use Rattle.plan.specs.Layout.{nodes_size}
use Rattle.plan.specs.declared.nodes.Nodes.{Nodes}
use Rattle.plan.specs.Cells.{Room, room-less}
use Rattle.build_aggregate.specs.Nodes.{record_end}
use Rattle.build_groups.specs.Rows.{groups_at, functions_at}

-- READY
-- the stage over a scope, behind n cells, m nodes and the numbers of u
pub record GroupsReady (c q : Bytes) (cells parts : List ℕ) (s : Scope) (n m : ℕ) (area : List ℕ) (u : Nodes) : Type 0 where
  pub valid : Valid s
  pub hidden : s.hidden ≤ s.width
  pub table : length cells ≡ table_size
  pub few-groups : length (groups_at c q cells parts) ≤ most_entries
  pub few-functions : length (functions_at c q cells parts) ≤ most_cells
  pub room : Room n (3 * (total size (groups_at c q cells parts) + total size (functions_at c q cells parts))) area
  pub nodes-room : record_end u.used (length (groups_at c q cells parts)) (length (functions_at c q cells parts))
      ≤ length u.numbers.now
  pub nodes-most : length u.numbers.now ≤ nodes_size
  pub source : 0 < m
  pub in_use : m ≤ u.used

-- over the rows of groups and functions, one at least
pub record AggregateReady (c q : Bytes) (cells : List ℕ) (s : Scope) (gs fs : List ℕ) (n m : ℕ) (area : List ℕ)
    (u : Nodes) : Type 0 where
  pub valid : Valid s
  pub table : length cells ≡ table_size
  pub some-rows : 0 < length gs + length fs
  pub few-groups : length gs ≤ most_entries
  pub few-functions : length fs ≤ most_cells
  pub room : Room n (3 * (total (λ r. size (tree_at c q cells r)) gs + total (λ r. size (tree_at c q cells r)) fs)) area
  pub nodes-room : record_end u.used (length gs) (length fs) ≤ length u.numbers.now
  pub nodes-most : length u.numbers.now ≤ nodes_size
  pub source : 0 < m
  pub in_use : m ≤ u.used

-- RETAINED
-- groups and functions that are retained, in all
pub retained-total : (w : ℕ → ℕ) (e : ℕ → Expr) (ks rs : List ℕ) → total w (retained e ks rs) ≤ total w rs
unfolding retained total
retained-total w e ks [] = omega arith
retained-total w e ks (r ∷ rs) =
    go (has_equal e ks (e r)) (retained-total w e ks rs) (retained-total w e (ks ++ (r ∷ [])) rs)
  where
    go : (b : Bool) → total w (retained e ks rs) ≤ total w rs → total w (retained e (ks ++ (r ∷ [])) rs) ≤ total w rs
        → total {A = ℕ} w (elim b [ true ↦ retained e ks rs | false ↦ r ∷ retained e (ks ++ (r ∷ [])) rs ])
        ≤ w r + total w rs
    go true h g = omega (arith, h)
    go false h g = omega (arith, g)

abbrev pub retained_groups : (ℕ → Expr) → List ℕ → List ℕ
retained_groups e gs = retained e [] gs

abbrev pub retained_functions : (ℕ → Expr) → List ℕ → List ℕ → List ℕ
retained_functions e gs fs = retained e (retained e [] gs) fs

-- the rows from the g-th on
abbrev pub rows_from : ℕ → List ℕ → List ℕ
rows_from g rows = take (length rows - g) (drop g rows)

rows-from : (g : ℕ) (rows : List ℕ) → rows_from g rows ≡ drop g rows
rows-from g rows = take_all (length rows - g) (drop g rows) (omega (arith, length-drop g rows))

-- the rows of the groups that are retained, g of them, then those of the functions
pub record RowsKept (e : ℕ → Expr) (gs fs rows : List ℕ) (g : ℕ) : Type 0 where
  pub groups-number : g ≡ length (retained_groups e gs)
  pub rows-are : rows ≡ retained_groups e gs ++ retained_functions e gs fs

module _ {e : ℕ → Expr} {gs fs rows : List ℕ} {g : ℕ} (k : RowsKept e gs fs rows g) where
  pub kept-groups : take g rows ≡ retained_groups e gs
  kept-groups = ap (take g) k.rows-are ∙ take_at (retained_groups e gs) (retained_functions e gs fs) g (sym k.groups-number)

  pub kept-functions : rows_from g rows ≡ retained_functions e gs fs
  kept-functions = rows-from g rows ∙ ap (drop g) k.rows-are ∙ drop_at (retained_groups e gs) (retained_functions e gs fs) g (sym k.groups-number)

-- retained one after the other
module _ (e : ℕ → Expr) (gs fs : List ℕ) {s s₁ : Rows} (z : s.used ≡ 0) (a : Listed (retained e (rows_in s) gs) s s₁) where
  kept-first : rows_in s₁ ≡ retained_groups e gs
  kept-first = listed-first z a ∙ ap (λ n. retained e (take n s.rows.now) gs) z

  groups-first : s₁.used ≡ length (retained_groups e gs)
  groups-first = omega (arith, rw z at a.used)

  pub second-room : length gs + length fs ≤ length s.rows.now → s₁.used + length fs ≤ length s₁.rows.now
  second-room h = omega (arith, h, groups-first, retained-length e [] gs, listed-all a)

  pub retained-both : {s₂ : Rows} → Listed (retained e (rows_in s₁) fs) s₁ s₂ → RowsKept e gs fs (rows_in s₂) s₁.used
  retained-both b = record {
    groups-number = groups-first;
    rows-are = listed-rows b ∙ rw kept-first;
  }

-- over the rows that are kept, the groups' first
pub record KeptReady (c q : Bytes) (cells : List ℕ) (s : Scope) (rows : List ℕ) (g n m : ℕ) (area : List ℕ) (u : Nodes)
    : Type 0 where
  pub valid : Valid s
  pub table : length cells ≡ table_size
  pub order : g ≤ length rows
  pub room : Room n (3 * (total (λ i. size (tree_at c q cells i)) (take g rows)
      + total (λ i. size (tree_at c q cells i)) (rows_from g rows))) area
  pub nodes-room : record_end u.used (length (take g rows)) (length (rows_from g rows)) ≤ length u.numbers.now
  pub nodes-most : length u.numbers.now ≤ nodes_size
  pub source : 0 < m
  pub in_use : m ≤ u.used

-- there is room in the child scope
pub kept-aggregable : {c q : Bytes} {cells : List ℕ} {s : Scope} {rows : List ℕ} {g n m : ℕ} {area : List ℕ} {u : Nodes}
    → KeptReady c q cells s rows g n m area u → length (take g rows) + length (rows_from g rows) ≤ most_columns
    → Aggregable s cells rows
kept-aggregable {rows = rows} {g} a h = record {
  valid = a.valid;
  few = omega (arith, h, length-take-le g rows a.order, ap length (rows-from g rows), length-drop g rows, a.order);
  table = omega (arith, a.table);
}

pub kept-ready : {c q : Bytes} {cells : List ℕ} {s : Scope} {gs fs : List ℕ} {n m : ℕ} {area : List ℕ} {u : Nodes}
    {rows : List ℕ} {g : ℕ} → AggregateReady c q cells s gs fs n m area u → RowsKept (tree_at c q cells) gs fs rows g
    → KeptReady c q cells s rows g n m area u
kept-ready {c} {q} {cells} {gs = gs} {fs} {rows = rows} {g} a h =
    let e = tree_at c q cells in
    let w : ℕ → ℕ = λ i. size (tree_at c q cells i) in
    let tg : total w (retained_groups e gs) ≤ total w gs = retained-total w e [] gs in
    let tf : total w (retained_functions e gs fs) ≤ total w fs = retained-total w e (retained_groups e gs) fs in
    let lg : length (retained_groups e gs) ≤ length gs = retained-length e [] gs in
    let lf : length (retained_functions e gs fs) ≤ length fs = retained-length e (retained_groups e gs) fs in
    record {
      valid = a.valid;
      table = a.table;
      order = omega (arith, h.groups-number, ap length h.rows-are, length-append (retained_groups e gs) (retained_functions e gs fs));
      room = rw (kept-groups h, kept-functions h) (room-less _ (omega (arith, tg, tf)) a.room);
      nodes-room = omega (arith, lg, lf, a.nodes-room, ap length (kept-groups h), ap length (kept-functions h));
      nodes-most = a.nodes-most;
      source = a.source;
      in_use = a.in_use;
    }
