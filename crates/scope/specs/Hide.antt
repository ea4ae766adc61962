-- Hidden columns: one passed on behind the others.
use Rattle.std.specs.Prelude.{ℕ, zero, suc, ◌+◌, ◌-◌, ◌≤◌, ◌<◌, min, ◌≡◌, refl, true, List, [], ◌∷◌, ◌++◌, length, get_or, take, set}
use Rattle.std.proofs.Common.{arith, add-one, ap, sym, ◌∙◌, length-set, take-suc-set, length-take-le, eq-eqb, ne_eqb}
use Rattle.rules.specs.Limits.{most_columns}
use Rattle.rules.specs.Lines.{Word}
use Rattle.rules.specs.Ast.{Expr}
use Rattle.rules.specs.Plan.{Label, nameless}
use Rattle.rules.specs.Scope as rules
use Rattle.rules.specs.Scope.{add_passthrough, add_matches, add_match, add_column, hide}
use Rattle.ast.specs.Table.{tree_at}
use Rattle.scope.specs.Labels.{slot_of, label_at, columns_of, tables_of, columns-append, columns-length}
use Rattle.scope.specs.Slots.{below-append, below_one}
use Rattle.scope.specs.Scopes.{matches_of, no-match, up_to, scope_from, scope_of, Valid, labels_of, table_numbers}
use Rattle.scope.specs.NewMatch.{most_row, pass_match, row_kept, add-new}
use Rattle.scope.specs.declared.Scope.{Scope}

-- there is room for the label x, of one of the scope's tables or of none
pub record HiddenFits (s : Scope) (t : List ℕ) (x : ℕ) : Type 0 where
  pub valid : Valid s
  pub room : s.width < most_columns
  pub slot : slot_of x ≤ s.count
  pub hidden : s.hidden ≤ s.width
  pub table : length t ≤ most_row

-- the parent's i-th column, whose label x is and to which m is matched, passed on hidden
pub record HiddenAdded (c q t : List ℕ) (s : Scope) (x m : ℕ) (r : Scope) : Type 0 where
  pub valid : Valid r
  pub width : r.width ≡ s.width + 1
  pub count : r.count ≡ s.count
  pub tables : r.tables ≡ s.tables
  pub hidden : r.hidden ≡ s.hidden + 1
  pub is : (parent : rules.Scope) (ms : List ℕ) (i : ℕ) → parent.aggregates ≡ matches_of (tree_at c q t) 0 ms
      → get_or ms i 0 ≡ m → get_or parent.columns i nameless ≡ label_at c q (table_numbers s) x
      → scope_of (tree_at c q t) c q r ≡ add_passthrough parent i true (scope_of (tree_at c q t) c q s)

-- THE RULES
-- the matches of a column passed on are its own
pass_one : (ℕ → Expr) → ℕ → ℕ → rules.Scope → rules.Scope
pass_one e zero w s = s
pass_one e (suc r) w s = add_match (e r) w s

pass-past : (e : ℕ → Expr) (i w : ℕ) (s : rules.Scope) (k : ℕ) (ms : List ℕ) → i < k
    → add_matches (matches_of e k ms) i w s ≡ s
unfolding add_matches matches_of
pass-past e i w s k [] h = refl
pass-past e i w s k (zero ∷ ms) h = pass-past e i w s (suc k) ms (omega arith)
pass-past e i w s k (suc r ∷ ms) h =
    rw (add_matches, ne_eqb k i (λ z. omega (arith, z))) (pass-past e i w s (suc k) ms (omega arith))

pass-own : (e : ℕ → Expr) (i w : ℕ) (s : rules.Scope) (k : ℕ) (ms : List ℕ)
    → add_matches (matches_of e k ms) (k + i) w s ≡ pass_one e (get_or ms i 0) w s
unfolding add_matches matches_of pass_one
pass-own e i w s k [] = refl
pass-own e zero w s k (zero ∷ ms) = pass-past e (k + 0) w s (suc k) ms (omega arith)
pass-own e zero w s k (suc r ∷ ms) =
    let z : k ≡ k + 0 = omega arith in
    rw (add_matches, eq-eqb k (k + 0) z) (pass-past e (k + 0) w (add_match (e r) w s) (suc k) ms (omega arith))
pass-own e (suc i) w s k (zero ∷ ms) =
    let z : k + suc i ≡ suc k + i = omega arith in
    rw z (pass-own e i w s (suc k) ms)
pass-own e (suc i) w s k (suc r ∷ ms) =
    let z : k + suc i ≡ suc k + i = omega arith in
    let y : add_matches (matches_of e k (suc r ∷ ms)) (k + suc i) w s ≡ add_matches (matches_of e (suc k) ms) (k + suc i) w s =
    rw (add_matches, ne_eqb k (k + suc i) (λ x. omega (arith, x))) in
    y ∙ ap (λ j. add_matches (matches_of e (suc k) ms) j w s) z ∙ pass-own e i w s (suc k) ms

pass-new : (e : ℕ → Expr) (ms : List ℕ) (m : ℕ) (cs : List Label) (ts : List Word) (hs : List ℕ)
    → ((r : ℕ) → e (min r most_row) ≡ e r)
    → pass_one e m (length ms) (record { columns = cs; tables = ts; aggregates = matches_of e 0 ms; hidden = hs })
    ≡ record { columns = cs; tables = ts; aggregates = matches_of e 0 (ms ++ (pass_match e ms m ∷ [])); hidden = hs }
unfolding pass_one pass_match
pass-new e ms zero cs ts hs h = rw (no-match e 0 ms)
pass-new e ms (suc r) cs ts hs h = add-new e ms r cs ts hs (h r)

passed-hidden : (e : ℕ → Expr) (parent : rules.Scope) (ns : List ℕ) (i : ℕ) (l : Label) (ms : List ℕ) (cs : List Label)
    (ts : List Word) (hs : List ℕ) → ((r : ℕ) → e (min r most_row) ≡ e r) → parent.aggregates ≡ matches_of e 0 ns
    → get_or parent.columns i nameless ≡ l → length cs ≡ length ms
    → add_passthrough parent i true (record { columns = cs; tables = ts; aggregates = matches_of e 0 ms; hidden = hs })
    ≡ record {
      columns = cs ++ (l ∷ []);
      tables = ts;
      aggregates = matches_of e 0 (ms ++ (pass_match e ms (get_or ns i 0) ∷ []));
      hidden = hs ++ (length ms ∷ []);
    }
unfolding add_passthrough add_column hide rules.width
passed-hidden e parent ns i l ms cs ts hs k a d n =
    let s : rules.Scope =
    record { columns = cs ++ (l ∷ []); tables = ts; aggregates = matches_of e 0 ms; hidden = hs } in
    let z : 0 + i ≡ i = omega arith in
    let y : add_matches (matches_of e 0 ns) i (length ms) s ≡ pass_one e (get_or ns i 0) (length ms) s =
    rw z at (pass-own e i (length ms) s 0 ns) in
    rw (add_passthrough, a, d, n)
    (ap (hide true (length ms)) (y ∙ pass-new e ms (get_or ns i 0) (cs ++ (l ∷ [])) ts hs k))

up_more : (i n : ℕ) → up_to i (suc n) ≡ up_to i n ++ ((i + n) ∷ [])
unfolding up_to
up_more i zero = let e : i + 0 ≡ i = omega arith in rw e
up_more i (suc n) = let e : i + suc n ≡ suc i + n = omega arith in rw e (ap (λ l. i ∷ l) (up_more (suc i) n))

pub hidden-added : (c q t : List ℕ) {s : Scope} {x m : ℕ} (r : Scope) → HiddenFits s t x
    → r.labels ≡ set s.labels s.width x
    → r.matches ≡ set s.matches s.width (pass_match (tree_at c q t) (take s.width s.matches) m)
    → r.tables ≡ s.tables → r.width ≡ s.width + 1 → r.count ≡ s.count → r.hidden ≡ s.hidden + 1
    → HiddenAdded c q t s x m r
unfolding scope_of scope_from rules.width columns_of
hidden-added c q t {s} {x} {m} r f el em et ew ec eh =
    let e : ℕ → Expr = tree_at c q t in
    let ns : List ℕ = take s.width s.matches in
    let v : ℕ = pass_match e ns m in
    let w : r.width ≡ suc s.width = ew ∙ add-one s.width in
    let h : r.hidden ≡ suc s.hidden = eh ∙ add-one s.hidden in
    let ll : s.width < length s.labels = omega (arith, f.valid.labels-room, f.room) in
    let lm : s.width < length s.matches = omega (arith, f.valid.matches-room, f.room) in
    let xs : labels_of r ≡ labels_of s ++ (x ∷ []) = rw (w, el) (take-suc-set s.labels s.width x ll) in
    let ms : take r.width r.matches ≡ ns ++ (v ∷ []) = rw (w, em) (take-suc-set s.matches s.width v lm) in
    let ts : table_numbers r ≡ table_numbers s = rw (ec, et) in
    let n : length (labels_of s) ≡ s.width = length-take-le s.width s.labels (omega arith) in
    let nm : length ns ≡ s.width = length-take-le s.width s.matches (omega arith) in
    let n' : length (labels_of r) ≡ r.width = length-take-le r.width r.labels
    (rw (el, length-set s.labels s.width x) (omega arith)) in
    let k : length (labels_of r) - suc s.hidden ≡ s.width - s.hidden = omega (arith, n', w) in
    let hs : up_to (length (labels_of r) - r.hidden) r.hidden
    ≡ up_to (length (labels_of s) - s.hidden) s.hidden ++ (length ns ∷ []) =
    let z : s.width - s.hidden + s.hidden ≡ length ns = omega (arith, f.hidden, nm) in
    rw (h, k, n) (up_more (s.width - s.hidden) s.hidden ∙ rw z) in
    let cs : columns_of c q (table_numbers s) (labels_of s ++ (x ∷ []))
    ≡ columns_of c q (table_numbers s) (labels_of s) ++ (label_at c q (table_numbers s) x ∷ []) =
    columns-append c q (table_numbers s) (labels_of s) (x ∷ []) in
    let nc : length (columns_of c q (table_numbers s) (labels_of s)) ≡ length ns =
    columns-length c q (table_numbers s) (labels_of s) ∙ n ∙ sym nm in
    record {
      valid = record {
        width = omega (arith, f.room);
        tables = rw ec f.valid.tables;
        slots = rw (xs, ec) (below-append f.valid.slots (below_one f.slot));
        labels-room = ap length el ∙ length-set s.labels s.width x ∙ f.valid.labels-room;
        matches-room = ap length em ∙ length-set s.matches s.width v ∙ f.valid.matches-room;
        tables-room = ap length et ∙ f.valid.tables-room;
      };
      width = ew;
      count = ec;
      tables = et;
      hidden = eh;
      is = λ parent ps i a b d.
          whole hs xs ms ts cs
          ∙ sym (passed-hidden e parent ps i (label_at c q (table_numbers s) x) ns
          (columns_of c q (table_numbers s) (labels_of s)) (tables_of c q (table_numbers s))
          (up_to (length (labels_of s) - s.hidden) s.hidden) (λ j. row_kept c q t j f.table) a d nc
          ∙ rw b);
    }
  where
    whole : {hs : List ℕ} → up_to (length (labels_of r) - r.hidden) r.hidden ≡ hs
        → labels_of r ≡ labels_of s ++ (x ∷ [])
        → take r.width r.matches
        ≡ take s.width s.matches ++ (pass_match (tree_at c q t) (take s.width s.matches) m ∷ [])
        → table_numbers r ≡ table_numbers s
        → columns_of c q (table_numbers s) (labels_of s ++ (x ∷ []))
        ≡ columns_of c q (table_numbers s) (labels_of s) ++ (label_at c q (table_numbers s) x ∷ [])
        → scope_of (tree_at c q t) c q r ≡ record {
          columns = columns_of c q (table_numbers s) (labels_of s) ++ (label_at c q (table_numbers s) x ∷ []);
          tables = tables_of c q (table_numbers s);
          aggregates = matches_of (tree_at c q t) 0
              (take s.width s.matches
              ++ (pass_match (tree_at c q t) (take s.width s.matches) m ∷ []));
          hidden = hs;
        }
    whole hs xs ms ts cs = rw (hs, xs, ms, ts, cs)
