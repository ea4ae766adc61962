-- All labels of FROM are qualified, so each column that a star gives is named by table and name.
use Rattle.std.specs.Prelude.{ℕ, zero, suc, ◌+◌, ◌≤◌, ◌<◌, ◌≡◌, refl, Bool, true, false, length, get_or}
use Rattle.std.proofs.Common.{arith}
use mathlib.Core.List.{List, [], ◌∷◌, ◌++◌, map, Memᴰ}
use Rattle.std.proofs.Math.Option.{Option, none, some}
use Rattle.rules.specs.Lines.{Word}
use Rattle.rules.specs.Schema.{Table, Catalog, get_table, named_by}
use Rattle.rules.specs.Ast.{column, From, Item, Select}
use Rattle.rules.specs.Ast as Ast
use Rattle.rules.specs.Views.{as_star}
use Rattle.rules.specs.Plan.{Label, nameless, unqualified, qualified}
use Rattle.rules.specs.Scope.{Scope, empty, width, spawn, from_table, merge, add_passthrough, pass_all, remap}
use Rattle.rules.specs.BuildFrom.{is_right, rising, swapped, build_from_clause}
use Rattle.rules.specs.Items.{starred_column, expand_stars}
use Rattle.rules.specs.Order.{scan_scope, sides_scope, join_scope, scope_of, from_scope, reads_of}
use Rattle.claims.specs.Answers.{Ensures, weaken, All, all_append, all-weaken}
use Rattle.claims.specs.Lists.{all-mapped}
use Rattle.claims.specs.Widths.Labels.{merge-columns, merge-width, passthrough-columns}
use Rattle.claims.specs.Widths.Scopes.{remap-swapped}
use Rattle.claims.specs.Order.From.{from_clause-laid}

-- by table and name
abbrev pub IsQualified : Label → Type 0
IsQualified nameless = ⊥
IsQualified (unqualified n) = ⊥
IsQualified (qualified t n) = Unit {0}

abbrev AllQualified : Scope → Type 0
AllQualified s = All IsQualified s.columns

-- SCOPES
all-at : (ls : List Label) (i : ℕ) → All IsQualified ls → i < length ls → IsQualified (get_or ls i nameless)
unfolding All
all-at [] i h l = absurd (omega arith)
all-at (x ∷ xs) zero h l = h.0
all-at (x ∷ xs) (suc i) h l = all-at xs i h.1 (omega arith)

merge-qualified : (s t : Scope) → AllQualified s → AllQualified t → AllQualified (merge s t)
merge-qualified s t h g = rw (merge-columns s t) (all_append IsQualified s.columns t.columns h g)

table-qualified : (n : Word) (t : Table) → AllQualified (from_table n t)
unfolding from_table
table-qualified n t = all-mapped IsQualified _ (λ c. tt) t.columns

rising-qualified : (n i : ℕ) (s c : Scope) → i + n ≤ width s → AllQualified s → AllQualified c
    → AllQualified (pass_all s (rising i n) c)
unfolding pass_all rising width All
rising-qualified zero i s c l h g = g
rising-qualified (suc n) i s c l h g = rising-qualified n (i + 1) s (add_passthrough s i false c) (omega arith) h
    (rw (passthrough-columns s i false c)
    (all_append IsQualified c.columns _ g (all-at s.columns i h (omega arith), tt)))

swap-qualified : (a b : ℕ) (s : Scope) → a + b ≤ width s → AllQualified s → AllQualified (remap s (swapped a b))
unfolding spawn All
swap-qualified a b s l h = rw (remap-swapped a b s)
    (rising-qualified a 0 s (pass_all s (rising a b) (spawn s)) (omega arith) h
    (rising-qualified b a s (spawn s) l h tt))

sides-qualified : (s t : Scope) → AllQualified s → AllQualified t → AllQualified (sides_scope s t)
unfolding sides_scope empty All
sides-qualified s t h g = merge-qualified (merge empty s) t (merge-qualified empty s tt h) g

sides-width : (s t : Scope) → width s + width t ≤ width (sides_scope s t)
unfolding sides_scope width empty
sides-width s t = omega (arith, merge-width (merge empty s) t, merge-width empty s)

-- FROM
scan-qualified : (a : Option Word) (n : Word) (o : Option Table) → AllQualified (scan_scope a n o)
unfolding scan_scope empty All
scan-qualified a n none = tt
scan-qualified a n (some t) = table-qualified _ (named_by n t)

join-qualified : (b : Bool) (s t : Scope) → AllQualified s → AllQualified t
    → AllQualified (elim b [ true ↦ remap (sides_scope t s) (swapped (width t) (width s)) | false ↦ sides_scope s t ])
join-qualified true s t h g =
    swap-qualified (width t) (width s) (sides_scope t s) (sides-width t s) (sides-qualified t s g h)
join-qualified false s t h g = sides-qualified s t h g

scope-qualified : (c : Catalog) (f : From) → AllQualified (scope_of c f)
unfolding scope_of join_scope
scope-qualified c (Ast.table l n a) = scan-qualified a n (get_table c n.bytes)
scope-qualified c (Ast.join l j f g p) =
    join-qualified (is_right j) (scope_of c f) (scope_of c g) (scope-qualified c f) (scope-qualified c g)

from_scope-qualified : (c : Catalog) (fs : List From) (s : Scope) → AllQualified s → AllQualified (from_scope c fs s)
unfolding from_scope
from_scope-qualified c [] s h = h
from_scope-qualified c (f ∷ fs) s h =
    from_scope-qualified c fs _ (merge-qualified s (scope_of c f) h (scope-qualified c f))

-- of the scope that statement and catalog give
pub scope-from-qualified : (c : Catalog) (fs : List From) → All IsQualified (from_scope c fs empty).columns
unfolding empty All
scope-from-qualified c fs = from_scope-qualified c fs empty tt

-- and of the one that is built
pub from-qualified : (c : Catalog) (fs : List From)
    → Ensures (build_from_clause c fs) (λ f. All IsQualified f.scope.columns)
from-qualified c fs =
    weaken (build_from_clause c fs) _ _ (λ f h. rw h.scoped (scope-from-qualified c fs)) (from_clause-laid c fs)

-- STARS
-- an item after star expansion: one of the statement's that is no star, or a column of FROM at the line of one that is
pub data Expanded (ls : List Label) (is' : List Item) : Item → Type 0 where
  kept : (i : Item) → Memᴰ i is' → as_star i.expr ≡ none → Expanded ls is' i
  starred : (i : Item) (l : ℕ) (t n : Word) → Memᴰ i is' → as_star i.expr ≡ some l → Memᴰ (qualified t n) ls
      → Expanded ls is' (record { line = l; expr = column l (some t) n; alias = none })

one_more : {ls : List Label} {is' : List Item} (j : Item) {i : Item} → Expanded ls is' i → Expanded ls (j ∷ is') i
one_more j (kept i m e) = kept i (Memᴰ.tail m) e
one_more j (starred k l t n m e q) = starred k l t n (Memᴰ.tail m) e q

star-columns : (all : List Label) (is' : List Item) (i : Item) (l : ℕ) → Memᴰ i is' → as_star i.expr ≡ some l
    → (ls : List Label)
    → ((x : Label) → Memᴰ x ls → Memᴰ x all) → All IsQualified ls
    → All (Expanded all is') (map (starred_column l) ls)
unfolding All starred_column
star-columns all is' i l m e [] k h = tt
star-columns all is' i l m e (nameless ∷ ls) k h = absurd h.0
star-columns all is' i l m e (unqualified n ∷ ls) k h = absurd h.0
star-columns all is' i l m e (qualified t n ∷ ls) k h = (
  starred i l t n m e (k (qualified t n) (Memᴰ.head refl)),
  star-columns all is' i l m e ls (λ x y. k x (Memᴰ.tail y)) h.1,
)

pub expand-qualified : (ls : List Label) → All IsQualified ls → (is' : List Item)
    → All (Expanded ls is') (expand_stars ls is')
unfolding expand_stars All
expand-qualified ls h [] = tt
expand-qualified ls h (i ∷ is') =
    go (as_star i.expr) refl (all-weaken _ _ (λ j. one_more i) (expand_stars ls is') (expand-qualified ls h is'))
  where
    go : (o : Option ℕ) → as_star i.expr ≡ o → All (Expanded ls (i ∷ is')) (expand_stars ls is')
        → All (Expanded ls (i ∷ is')) (elim o [
          | some l ↦ map (starred_column l) ls ++ expand_stars ls is'
          | none ↦ i ∷ expand_stars ls is'
        ])
    go none e r = (kept i (Memᴰ.head refl) e, r)
    go (some l) e r = all_append _ (map (starred_column l) ls) (expand_stars ls is')
        (star-columns ls (i ∷ is') i l (Memᴰ.head refl) e ls (λ x m. m) h) r

-- of a SELECT's items: the stars' columns are named by table and name
pub starred-items : (c : Catalog) (q : Select)
    → All (Expanded (reads_of c q).from.columns q.items) (expand_stars (reads_of c q).from.columns q.items)
unfolding reads_of
starred-items c q = expand-qualified _ (scope-from-qualified c q.from) q.items
