-- The labels of FROM's node, by which stars are expanded, are the labels of FROM's scope.
use Rattle.std.specs.Prelude.{ℕ, zero, suc, ◌+◌, ◌≤◌, ◌<◌, ◌≡◌, Bool, true, false, ◌||◌, List, [], ◌∷◌, ◌++◌, map, eqb, length, get_or}
use Rattle.std.proofs.Common.{arith, zero-add, add-one, sym, ap, ap₂, ◌∙◌, append_assoc, append-nil, length-append, ext_get_or, lt-ltb, le-ltb}
use Rattle.std.proofs.Math.Path.{refl}
use Rattle.std.proofs.Math.Option.{Option, none, some}
use Rattle.std.proofs.lemmas.List.{length-map}
use Rattle.rules.specs.Lists.{any, is_some, or_else, entry_after}
use Rattle.rules.specs.Lines.{Word}
use Rattle.rules.specs.Schema.{Column, Table, Catalog}
use Rattle.rules.specs.Ast.{Expr, From}
use Rattle.rules.specs.Plan.{Built, Node, column_count, first_row, nameless, qualified, scan_label, first_source}
use Rattle.rules.specs.Plan.{remap_label, column_label, labels_from, labels}
use Rattle.rules.specs.Plan as P
use Rattle.rules.specs.Scope.{Match, Scope, empty, width, spawn, add_column, from_table, matched, add_match, hide}
use Rattle.rules.specs.Scope.{add_matches, add_passthrough, shift, merge, pass_all, remap}
use Rattle.rules.specs.BuildFrom.{Sides, join_node, rising, swapped, swap_targets, join_in_order, join_swapped, scan_of}
use Rattle.rules.specs.BuildFrom.{build_from_clause}
use Rattle.claims.specs.Answers.{Ensures}
use Rattle.claims.specs.Cases.{either_way}
use Rattle.claims.specs.Widths.Tabulate.{tabulate, length-tabulate, tabulate-append, tabulate-same}
use Rattle.claims.specs.Widths.Tabulate.{get_d_tabulate, labels-are}
use Rattle.claims.specs.Widths.Swapped.{swapped-count, swapped-front, swapped-back, first-once}
use Rattle.claims.specs.Widths.Scopes.{remap-swapped}
use Rattle.claims.specs.Building.FromClause.{FromSteps, clause-by}

-- SCOPES
-- a match adds no label
match-columns : (e : Expr) (i : ℕ) (s : Scope) → (add_match e i s).columns ≡ s.columns
unfolding add_match
match-columns e i s = either_way (λ (c : Scope). c.columns ≡ s.columns) (is_some (matched s e)) _ _ refl refl

matches-columns : (ms : List Match) (from to : ℕ) (s : Scope) → (add_matches ms from to s).columns ≡ s.columns
unfolding add_matches
matches-columns [] from to s = refl
matches-columns (m ∷ ms) from to s = either_way (λ (c : Scope). c.columns ≡ s.columns) (eqb m.column from) _ _
    (matches-columns ms from to (add_match m.expr to s) ∙ match-columns m.expr to s) (matches-columns ms from to s)

hide-columns : (b : Bool) (i : ℕ) (s : Scope) → (hide b i s).columns ≡ s.columns
unfolding hide
hide-columns true i s = refl
hide-columns false i s = refl

-- a column passed through keeps its label
pub passthrough-columns : (p : Scope) (i : ℕ) (b : Bool) (s : Scope)
    → (add_passthrough p i b s).columns ≡ s.columns ++ (get_or p.columns i nameless ∷ [])
unfolding add_passthrough add_column
passthrough-columns p i b s =
    hide-columns (b || any (eqb i) p.hidden) (width s) _ ∙ matches-columns p.aggregates i (width s) _

shift-columns : (o : ℕ) (ms : List Match) (s : Scope) → (shift o ms s).columns ≡ s.columns
unfolding shift
shift-columns o [] s = refl
shift-columns o (m ∷ ms) s = shift-columns o ms _ ∙ match-columns m.expr (m.column + o) s

-- a merged scope has the one's labels, then the other's
pub merge-columns : (s t : Scope) → (merge s t).columns ≡ s.columns ++ t.columns
unfolding merge
merge-columns s t = shift-columns (width s) t.aggregates _

pub merge-width : (s t : Scope) → width (merge s t) ≡ width s + width t
unfolding width
merge-width s t = ap length (merge-columns s t) ∙ length-append s.columns t.columns

-- NODES
-- a node's labels are its scope's
abbrev pub Labelled : Node Built → Scope → Type 0
Labelled n s = labels n ≡ s.columns

pub labelled-width : (n : Node Built) (s : Scope) → Labelled n s → column_count n ≡ width s
unfolding labels width
labelled-width n s h =
    sym (length-tabulate (column_label n) (column_count n) 0) ∙ ap length (sym (labels-are n (column_count n) 0) ∙ h)

labelled-at : (n : Node Built) (s : Scope) (k : ℕ) → Labelled n s → k < column_count n
    → get_or s.columns k nameless ≡ column_label n k
unfolding labels
labelled-at n s k h l = rw (← h, labels-are, get_d_tabulate, zero-add)

rising-columns : (n i : ℕ) (m : Node Built) (s c : Scope) → Labelled m s → i + n ≤ column_count m
    → (pass_all s (rising i n) c).columns ≡ c.columns ++ tabulate (column_label m) i n
unfolding pass_all rising tabulate
rising-columns zero i m s c h l = sym (append-nil c.columns)
rising-columns (suc n) i m s c h l = rw (
  rising-columns n (i + 1) m s (add_passthrough s i false c) h (omega arith),
  passthrough-columns,
  labelled-at m s i h (omega arith),
  append_assoc,
  add-one,
)

join_first : (a b : Node Built) (x : Option Built) (o : Bool) (k : ℕ) → k < column_count a
    → column_label (P.join a b x o) k ≡ column_label a k
unfolding column_label
join_first a b x o k h = rw (lt-ltb k (column_count a) h, column_label)

join-second : (a b : Node Built) (x : Option Built) (o : Bool) (k : ℕ)
    → column_label (P.join a b x o) (column_count a + k) ≡ column_label b k
unfolding column_label
join-second a b x o k =
    rw (le-ltb (column_count a + k) (column_count a) (omega arith), column_label) (ap (column_label b) (omega arith))

-- a join has the one's labels, then the other's
pub join-left : (a b : Node Built) (x : Option Built) (o : Bool)
    → tabulate (column_label (P.join a b x o)) 0 (column_count a) ≡ labels a
unfolding labels
join-left a b x o = rw labels-are
    (tabulate-same _ _ (column_count a) 0 0 λ k h. join_first a b x o (0 + k) (omega arith))

pub join-right : (a b : Node Built) (x : Option Built) (o : Bool)
    → tabulate (column_label (P.join a b x o)) (column_count a) (column_count b) ≡ labels b
unfolding labels
join-right a b x o = rw labels-are
    (tabulate-same _ _ (column_count b) (column_count a) 0 λ k h. rw zero-add (join-second a b x o k))

pub join-labels : (a b : Node Built) (x : Option Built) (o : Bool) → labels (P.join a b x o) ≡ labels a ++ labels b
unfolding labels column_count
join-labels a b x o =
    rw (labels-are (P.join a b x o), tabulate-append, zero-add) (ap₂ ◌++◌ (join-left a b x o) (join-right a b x o))

scan-label : (n : Word) (cs : List Column) (k : ℕ)
    → scan_label n (entry_after k cs) ≡ get_or (map (λ (c : Column). qualified n c.name) cs) k nameless
unfolding scan_label entry_after
scan-label n [] k = refl
scan-label n (c ∷ cs) zero = refl
scan-label n (c ∷ cs) (suc k) = scan-label n cs k

-- a scan has the table's labels under its name or alias
pub scan-labels : (t : Table) (a : Option Word) → Labelled (P.scan t a none) (from_table (or_else a t.name) t)
unfolding labels column_count from_table column_label
scan-labels t a = rw labels-are (ext_get_or nameless _ _ (rw (length-tabulate, length-map)) λ k h.
    get_d_tabulate _ nameless (length t.columns) k 0 (rw length-tabulate at h)
    ∙ rw zero-add (scan-label (or_else a t.name) t.columns k))

-- a swap has the labels of the b columns behind the first a, then those of the a
pub swap-labels : (n : Node Built) (a b : ℕ)
    → labels (P.remap n (swapped a b)) ≡ tabulate (column_label n) a b ++ tabulate (column_label n) 0 a
unfolding labels column_count
swap-labels n a b =
    let e : a + b ≡ b + a = omega arith in
    rw (labels-are, swapped-count, e, tabulate-append) (ap₂ ◌++◌
    (tabulate-same _ _ b 0 a λ k h. rw zero-add (moved k (a + k) (first-once k (a + k) _ (swapped-back a b k h))))
    (tabulate-same _ _ a (0 + b) 0 λ k h.
    simp zero-add (moved (b + k) k (first-once (b + k) k _ (swapped-front a b k h)))))
  where
    moved : (k j : ℕ) → first_source k 0 (swapped a b) ≡ some j
        → column_label (P.remap n (swapped a b)) k ≡ column_label n j
    moved k j h = unfold column_label remap_label in (rw h)

-- FROM
start-labelled : (n : Node Built) (s : Scope) → Labelled n s → Labelled n (merge empty s)
unfolding empty
start-labelled n s h = h ∙ sym (merge-columns empty s)

join-labelled : (n m : Node Built) (s t : Scope) (x : Option Built) (o : Bool) → Labelled n s → Labelled m t
    → Labelled (P.join n m x o) (merge s t)
join-labelled n m s t x o h g = join-labels n m x o ∙ ap₂ ◌++◌ h g ∙ sym (merge-columns s t)

swap-labelled : (n : Node Built) (s : Scope) (a b : ℕ) → Labelled n s → column_count n ≡ a + b
    → Labelled (P.remap n (swapped a b)) (remap s (swapped a b))
unfolding spawn
swap-labelled n s a b h e = rw (
  swap-labels,
  remap-swapped,
  rising-columns a 0 n s (pass_all s (rising a b) (spawn s)) h (omega arith),
  rising-columns b a n s (spawn s) h (omega arith),
)

sides-labelled : (o : Bool) (d : Sides) → d.scope ≡ merge (merge empty d.first.scope) d.second.scope
    → Labelled d.first.node d.first.scope → Labelled d.second.node d.second.scope
    → Labelled (join_node o d) d.scope
unfolding join_node
sides-labelled o d e h g = rw e (join-labelled _ _ _ _ d.predicate o (start-labelled d.first.node _ h) g)

pub label-steps : (c : Catalog) → FromSteps c (λ f r. Labelled r.node r.scope)
unfolding scan_of join_in_order join_swapped join_node swap_targets column_count
label-steps c = record {
  tables = λ l n a t e. scan-labels t a;
  joins = λ l j f g p d e h i b. sides-labelled _ d b.merged h i;
  rights = λ l j f g p d e h i b. swap-labelled _ _ _ _ (sides-labelled _ d b.merged h i)
      (ap₂ ◌+◌ (labelled-width d.first.node _ h) (labelled-width d.second.node _ i));
}

-- the labels of FROM's node are those of its scope
pub from-labels : (c : Catalog) (fs : List From)
    → Ensures (build_from_clause c fs) (λ f. labels f.node ≡ f.scope.columns)
unfolding build_from_clause
from-labels c [] = unfold labels labels_from column_count first_row empty in refl
from-labels c (f ∷ fs) = clause-by (label-steps c) (λ fs s. Labelled s.node s.scope)
    (λ f fs s r h g w. join-labelled s.node r.node s.scope r.scope none false h g) f fs
    λ r h w. start-labelled r.node r.scope h
