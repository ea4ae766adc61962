-- A projection over groups and aggregates: its items' labels over the same tables, the first of equal items matched.
use Rattle.std.specs.Prelude.{ℕ, ◌≤◌, min, ◌≡◌, refl, false, take}
use Rattle.std.proofs.Common.{arith, sym, ◌∙◌, take_all}
use Rattle.std.proofs.Math.Path.{ap}
use mathlib.Core.List.{List, [], ◌∷◌, ◌++◌, map, append_assoc, append-nil}
use Rattle.std.proofs.Math.ListN.{length, length-append}
use Rattle.rules.specs.Limits.{most_columns}
use Rattle.rules.specs.Lists.{is_empty}
use Rattle.rules.specs.Lines.{Word}
use Rattle.rules.specs.Ast.{Expr, Item}
use Rattle.rules.specs.Plan.{Label}
use Rattle.rules.specs.Scope as rules
use Rattle.rules.specs.Scope.{item_label, project_one, project_all, add_column, add_match}
use Rattle.ast.specs.Table.{tree_at}
use Rattle.scope.specs.Labels.{columns_of, tables_of}
use Rattle.scope.specs.Slots.{Below}
use Rattle.scope.specs.Scopes.{matches_of, up_to, scope_from, scope_of, Valid, labels_of, table_numbers}
use Rattle.scope.specs.Copies.{Overwritten, overwritten-labels, overwritten-room}
use Rattle.scope.specs.NewMatch.{most_row, new_match, new_matches, row_kept, add-new, Storing}
use Rattle.scope.specs.declared.Scope.{Scope}

-- items over a scope in which something is matched: their labels xs, each of one of its tables or of none, and the rows
-- of their expressions
pub record ItemsFit (c q t : List ℕ) (s : Scope) (xs rows : List ℕ) : Type 0 where
  pub valid : Valid s
  pub matched : is_empty (scope_of (tree_at c q t) c q s).aggregates ≡ false
  pub few : length rows ≤ most_columns
  pub same : length xs ≡ length rows
  pub slots : Below s.count xs
  pub table : length t ≤ most_row

pub record ItemsProjected (c q t : List ℕ) (s : Scope) (xs rows : List ℕ) (r : Scope) : Type 0 where
  pub valid : Valid r
  pub width : r.width ≡ length rows
  pub count : r.count ≡ s.count
  pub tables : r.tables ≡ s.tables
  pub shown : r.hidden ≡ 0
  pub is : (is' : List Item) → map (λ (i : Item). i.expr) is' ≡ map (tree_at c q t) rows
      → map (λ (i : Item). item_label (scope_of (tree_at c q t) c q s) i.expr i.alias) is'
      ≡ columns_of c q (table_numbers s) xs
      → scope_of (tree_at c q t) c q r ≡ rules.project (scope_of (tree_at c q t) c q s) is'

-- THE RULES
head_or : Expr → List Expr → Expr
head_or d [] = d
head_or d (x ∷ xs) = x

tail_of : List Expr → List Expr
tail_of [] = []
tail_of (x ∷ xs) = xs

-- a scope of columns over tables, to which ms are matched
abbrev shown_scope : (ℕ → Expr) → List Label → List Word → List ℕ → rules.Scope
shown_scope e ds ts ms = record { columns = ds; tables = ts; aggregates = matches_of e 0 ms; hidden = [] }

module _ (p : rules.Scope) (e : ℕ → Expr) (ts : List Word) (some-matched : is_empty p.aggregates ≡ false)
    (kept : (r : ℕ) → e (min r most_row) ≡ e r) where
  project-one : (i : Item) (r : ℕ) (ds : List Label) (ms : List ℕ) → length ds ≡ length ms → i.expr ≡ e r
      → project_one p i (shown_scope e ds ts ms)
      ≡ shown_scope e (ds ++ (item_label p i.expr i.alias ∷ [])) ts (ms ++ (new_match e ms r ∷ []))
  unfolding project_one add_column rules.width
  project-one i r ds ms l h =
      rw (project_one, some-matched, l)
      (ap (λ x. add_match x (length ms) (shown_scope e (ds ++ (item_label p i.expr i.alias ∷ [])) ts ms)) h
      ∙ add-new e ms r (ds ++ (item_label p i.expr i.alias ∷ [])) ts [] (kept r))

  project-all : (is' : List Item) (rows : List ℕ) (ds : List Label) (ms : List ℕ) → length ds ≡ length ms
      → map (λ (i : Item). i.expr) is' ≡ map e rows
      → project_all p is' (shown_scope e ds ts ms)
      ≡ shown_scope e (ds ++ map (λ (i : Item). item_label p i.expr i.alias) is') ts (new_matches e ms rows)
  unfolding project_all new_matches head_or tail_of
  project-all [] [] ds ms l h = rw append-nil
  project-all [] (r ∷ rows) ds ms l h = absurd (omega (arith, ap length h))
  project-all (i ∷ is') [] ds ms l h = absurd (omega (arith, ap length h))
  project-all (i ∷ is') (r ∷ rows) ds ms l h =
      let d : Label = item_label p i.expr i.alias in
      let n : length (ds ++ (d ∷ [])) ≡ length (ms ++ (new_match e ms r ∷ [])) =
      omega (arith, l, length-append ds (d ∷ []), length-append ms (new_match e ms r ∷ [])) in
      ap (project_all p is') (project-one i r ds ms l (ap (head_or (e r)) h))
      ∙ project-all is' rows (ds ++ (d ∷ [])) (ms ++ (new_match e ms r ∷ [])) n (ap tail_of h)
      ∙ ap (λ (cs : List Label). shown_scope e cs ts (new_matches e (ms ++ (new_match e ms r ∷ [])) rows))
      (append_assoc ds (d ∷ []) (map (λ (j : Item). item_label p j.expr j.alias) is'))

-- all labels and matches are stored
pub items-projected : (c q t : List ℕ) {s : Scope} {xs rows : List ℕ} {j : ℕ} (r : Scope) → ItemsFit c q t s xs rows
    → Overwritten xs s.labels r.labels → Storing (tree_at c q t) rows j r.matches → j ≤ length rows → length rows ≤ j
    → r.tables ≡ s.tables → r.width ≡ length rows → r.count ≡ s.count → r.hidden ≡ 0
    → ItemsProjected c q t s xs rows r
unfolding scope_of scope_from up_to rules.project rules.spawn matches_of
items-projected c q t {s} {xs} {rows} {j} r f kl km h g et ew ec eh =
    let e : ℕ → Expr = tree_at c q t in
    let el : labels_of r ≡ xs = overwritten-labels kl r.width (omega (arith, ew, f.same)) in
    let ej : r.width ≡ j = omega arith in
    let em : take r.width r.matches ≡ new_matches e [] rows =
    rw (ej, km.numbers, take_all j rows g) in
    let ts : table_numbers r ≡ table_numbers s = rw (ec, et) in
    record {
      valid = record {
        width = rw ew f.few;
        tables = rw ec f.valid.tables;
        slots = rw (el, ec) f.slots;
        labels-room = overwritten-room kl (omega (arith, f.same, f.few, f.valid.labels-room)) ∙ f.valid.labels-room;
        matches-room = km.room;
        tables-room = ap length et ∙ f.valid.tables-room;
      };
      width = ew;
      count = ec;
      tables = et;
      shown = eh;
      is = λ is' a b.
          rw (el, em, ts, eh, ← b)
          (sym (project-all (scope_of e c q s) e (tables_of c q (table_numbers s)) f.matched
          (λ k. row_kept c q t k f.table) is' rows [] [] refl a));
    }
