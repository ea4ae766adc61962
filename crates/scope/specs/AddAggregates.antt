-- The scope of groups and aggregates, from at most 256 rows of expressions.
use Rattle.std.specs.Prelude.{ℕ, suc, ◌≤◌, ◌≡◌, refl, List, [], ◌∷◌, ◌++◌, map, length, take}
use Rattle.std.proofs.Common.{ap, sym, ◌∙◌}
use Rattle.std.proofs.lemmas.List.{length-map}
use Rattle.rules.specs.Limits.{most_columns}
use Rattle.rules.specs.Lists.{Bytes}
use Rattle.rules.specs.Scope.{label_of}
use Rattle.rules.specs.BuildAggregate.{Retained, retain_functions}
use Rattle.ast.specs.Table.{tree_at}
use Rattle.scope.specs.Labels.{columns_of}
use Rattle.scope.specs.Slots.{Below}
use Rattle.scope.specs.Slots as slots
use Rattle.scope.specs.Scopes.{matches_of, up_to, scope_from, scope_of, Valid, labels_of, table_numbers}
use Rattle.scope.specs.Copies.{Copying, stored}
use Rattle.scope.specs.NewMatch.{most_row, match_number, row_kept}
use Rattle.scope.specs.LabelOf.{Passed, passed_number, passed-label, passed-slot}
use Rattle.scope.specs.Retain.{retained}
use Rattle.scope.specs.Aggregates.{child_of, retain-functions}
use Rattle.scope.specs.declared.Scope.{Scope}

-- rows of a table for which there is room
pub record Aggregable (s : Scope) (t rows : List ℕ) : Type 0 where
  pub valid : Valid s
  pub few : length rows ≤ most_columns
  pub table : length t ≤ most_row

-- a child of s with a column for each of the rows
pub record AggregatesAdded (c q : Bytes) (t : List ℕ) (s : Scope) (rows : List ℕ) (r : Scope) : Type 0 where
  pub valid : Valid r
  pub width : r.width ≡ length rows
  pub count : r.count ≡ s.count
  pub tables : r.tables ≡ s.tables
  pub shown : r.hidden ≡ 0
  pub is : scope_of (tree_at c q t) c q r ≡ child_of (scope_of (tree_at c q t) c q s) (tree_at c q t) rows

-- it is the rules' scope for the rows that are retained of groups and of functions
pub added-functions : {c q : Bytes} {t : List ℕ} {s : Scope} {rows : List ℕ} {r : Scope} (gs fs : List ℕ)
    → AggregatesAdded c q t s rows r
    → rows ≡ retained (tree_at c q t) [] gs ++ retained (tree_at c q t) (retained (tree_at c q t) [] gs) fs
    → scope_of (tree_at c q t) c q r
    ≡ (retain_functions (scope_of (tree_at c q t) c q s) (map (tree_at c q t) gs) (map (tree_at c q t) fs)).scope
added-functions {c} {q} {t} {s} {rows} {r} gs fs a e =
    a.is ∙ ap (child_of (scope_of (tree_at c q t) c q s) (tree_at c q t)) e
    ∙ sym (ap (λ (x : Retained). x.scope) (retain-functions (scope_of (tree_at c q t) c q s) (tree_at c q t) gs fs))

-- THE NUMBERS
unfoldable pub passed_label : Bytes → Bytes → List ℕ → Scope → ℕ → ℕ
passed_label c q t s k = passed_number (labels_of s) (scope_of (tree_at c q t) c q s) (tree_at c q t k)

-- the label that label_of gives
pub label-passed : {c q : Bytes} (t : List ℕ) (s : Scope) (k : ℕ) {x : ℕ}
    → Passed c q (labels_of s) (take s.width s.matches) (table_numbers s) (tree_at c q t k) x
    → x ≡ passed_label c q t s k
unfolding passed_label scope_of
label-passed {c} {q} t s k p = p.is (tree_at c q t) s.hidden

passed-columns : (c q : Bytes) (t : List ℕ) (s : Scope) (rows : List ℕ)
    → columns_of c q (table_numbers s) (map (passed_label c q t s) rows)
    ≡ map (λ k. label_of (scope_of (tree_at c q t) c q s) (tree_at c q t k)) rows
unfolding columns_of passed_label scope_of
passed-columns c q t s [] = refl
passed-columns c q t s (k ∷ rows) = rw (
  passed-label (tree_at c q t) c q (labels_of s) (take s.width s.matches) (table_numbers s) s.hidden
      (tree_at c q t k),
  passed-columns c q t s rows,
)

row-matches : (c q : Bytes) (t : List ℕ) (i : ℕ) (rows : List ℕ) → length t ≤ most_row
    → matches_of (tree_at c q t) i (map match_number rows) ≡ matches_of (tree_at c q t) i (map suc rows)
unfolding matches_of match_number
row-matches c q t i [] h = refl
row-matches c q t i (k ∷ rows) h = rw (row_kept c q t k h, row-matches c q t (suc i) rows h)

passed-below : (c q : Bytes) (t : List ℕ) (s : Scope) (rows : List ℕ) → Below s.count (labels_of s)
    → Below s.count (map (passed_label c q t s) rows)
unfolding passed_label
passed-below c q t s [] b = slots.none
passed-below c q t s (k ∷ rows) b = slots.more {x = passed_label c q t s k}
    (passed-slot s.count (labels_of s) (scope_of (tree_at c q t) c q s) (tree_at c q t k) b)
    (passed-below c q t s rows b)

-- all labels and matches are stored
pub aggregates-added : (c q t : List ℕ) {s : Scope} {rows : List ℕ} {j : ℕ} (r : Scope) → Aggregable s t rows
    → Copying [] 0 (map (passed_label c q t s) rows) j r.labels → Copying [] 0 (map match_number rows) j r.matches
    → j ≤ length rows → length rows ≤ j → r.tables ≡ s.tables → r.width ≡ length rows → r.count ≡ s.count
    → r.hidden ≡ 0 → AggregatesAdded c q t s rows r
unfolding scope_of scope_from up_to child_of
aggregates-added c q t {s} {rows} {j} r f kl km h g et ew ec eh =
    let el : labels_of r ≡ map (passed_label c q t s) rows =
    stored kl ew (length-map rows (passed_label c q t s)) h g in
    let em : take r.width r.matches ≡ map match_number rows = stored km ew (length-map rows match_number) h g in
    let ts : table_numbers r ≡ table_numbers s = rw (ec, et) in
    record {
      valid = record {
        width = rw ew f.few;
        tables = rw ec f.valid.tables;
        slots = rw (el, ec) (passed-below c q t s rows f.valid.slots);
        labels-room = kl.room;
        matches-room = km.room;
        tables-room = ap length et ∙ f.valid.tables-room;
      };
      width = ew;
      count = ec;
      tables = et;
      shown = eh;
      is = rw (el, em, ts, eh, passed-columns c q t s rows, row-matches c q t 0 rows f.table);
    }
