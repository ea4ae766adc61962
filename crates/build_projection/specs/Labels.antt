-- The labels of a projection's items: by their aliases, or by what their expressions pass on. Where nothing is matched, what
-- a column name passes on is the label at the position that stands in its cell.
use Rattle.std.specs.Prelude.{ℕ, ◌+◌, ◌≤◌, Bool, true, false, not, ◌⊎◌, eqb, length, take, Ok}
use Rattle.std.proofs.Common.{arith, inl, inr, ◌∙◌, get_or-take, get_or-append-add, length-take-le}
use Rattle.std.proofs.Math.Path.{◌≡◌, refl, sym, ap}
use mathlib.Core.List.{List, [], ◌∷◌, ◌++◌}
use Rattle.std.proofs.Math.Option.{none, some}
use Rattle.std.proofs.Math.ListN.{get_or}
use borrow.Author.Tests.{eq-eqb, ne_eqb}
use Rattle.rules.specs.Refusals.{ok, ◌>>=◌, refuse}
use Rattle.rules.specs.Lists.{Bytes, any, concat}
use Rattle.rules.specs.Ast.{Expr, star, column, literal, call, unary, binary, is}
use Rattle.rules.specs.Cells.{Cell}
use Rattle.rules.specs.Cells as C
use Rattle.rules.specs.Area.{cell_numbers}
use Rattle.rules.specs.Views.{as_column, ColumnName}
use Rattle.rules.specs.Scope as rules
use Rattle.rules.specs.BuildExpression.{found}
use Rattle.appends.specs.Answers.{ok-not-refused}
use Rattle.appends.specs.Area.{cells_numbers}
use Rattle.appends.specs.Expressions.Emit.{emit}
use Rattle.ast.specs.Table.{tree_at}
use Rattle.ast.specs.Operands.{kind_at}
use Rattle.ast.specs.Row.{number_of, tree_of, row-tree}
use Rattle.ast.specs.declared.row.Kind.{Kind}
use Rattle.ast.specs.declared.row.Kind.TheVariants as K
use Rattle.scope.specs.Labels.{packed}
use Rattle.scope.specs.Scopes.{matches_of, scope_from}
use Rattle.scope.specs.Matches.{matched-from}
use Rattle.scope.specs.UsedMatches.{some_match, used_matches, used-none, used-scope}
use Rattle.scope.specs.LabelOf.{found_number, passed_number, Passed}
use Rattle.plan.specs.Layout.{cells_end}
use Rattle.build_expression.specs.Rows.{column_step, column-is}
use Rattle.build_expression.specs.Builds.{scope_at}
use Rattle.build_projection.specs.Aliases.{row_of, alias_address, alias_length, item-tree}
use Rattle.plan.specs.declared.nodes.Nodes.{Nodes}
use Rattle.build_projection.specs.Pushes.{ItemPut}
use Rattle.build_projection.specs.declared.items.Item.{Item}

-- the label of item x over the labels xs, to whose columns ms are matched, and the tables ts
unfoldable pub label_number : Bytes → Bytes → List ℕ → List ℕ → List ℕ → List ℕ → List ℕ → Item → ℕ
label_number c q t parts xs ms ts x = elim (eqb (alias_length c q parts x) 0) [
  | true ↦ passed_number xs (scope_at c q t xs ms ts 0) (tree_at c q t (row_of parts x))
  | false ↦ packed 0 (alias_address parts x) (alias_length c q parts x)
]

module _ (c q : Bytes) (t parts xs ms ts : List ℕ) (x : Item) where
  pub number_passed : alias_length c q parts x ≡ 0 → label_number c q t parts xs ms ts x
      ≡ passed_number xs (scope_at c q t xs ms ts 0) (tree_at c q t (row_of parts x))
  unfolding label_number
  number_passed h = rw (label_number, eq-eqb _ 0 h)

  pub number-alias : (alias_length c q parts x ≡ 0 → ⊥) → label_number c q t parts xs ms ts x
      ≡ packed 0 (alias_address parts x) (alias_length c q parts x)
  unfolding label_number
  number-alias h = rw (label_number, ne_eqb _ 0 h)

  pub label-alias : {a n l : ℕ} → n ≡ alias_length c q parts x → (n ≡ 0 → ⊥) → a ≡ alias_address parts x
      → l ≡ packed 0 a n → l ≡ label_number c q t parts xs ms ts x
  label-alias {a} {n} {l} e h f g = rw (number-alias (λ z. h (e ∙ z)), ← e, ← f) g

  pub label-passed : {n r l : ℕ} → n ≡ alias_length c q parts x → n ≡ 0 → r ≡ row_of parts x
      → Passed c q xs ms ts (tree_at c q t r) l → l ≡ label_number c q t parts xs ms ts x
  label-passed {n} {r} {l} e h f g = rw (number_passed (sym e ∙ h), ← f) (g.is (tree_at c q t) 0)

-- FROM THE CELL THAT WAS BUILT
-- the label at the position in cell n, where an expression is a column name
unfoldable pub cell_label : List ℕ → List ℕ → ℕ → Expr → ℕ
cell_label xs area n e = elim (as_column e) [ some w ↦ get_or xs (get_or area (cells_end n + 1) 0) 0 | none ↦ 0 ]

-- item x stands in the area from the n-th cell on, behind those before it
pub record ItemStands (c q : Bytes) (t parts xs ms ts : List ℕ) (x : Item) (n : ℕ) (area : List ℕ) : Type 0 where
  pub before : List ℕ
  pub cells : List Cell
  pub next : ℕ
  pub room : cells_end n ≤ length before
  pub is : emit (scope_at c q t xs ms ts 0) n (tree_at c q t (row_of parts x)) ≡ ok (cells, next)
  pub stand : take (cells_end next) area ≡ take (cells_end n) before ++ cells_numbers cells

pub stands-put : {c q : Bytes} {t parts xs ms ts : List ℕ} {x : Item} {n : ℕ} {area area' : List ℕ} {u v : Nodes}
    {y : ℕ} → cells_end n ≤ length area → ItemPut c q t parts xs ms ts x n area area' u v (Ok y)
    → ItemStands c q t parts xs ms ts x n area'
stands-put {c} {q} {t} {parts} {x = x} {area = area} {y = y} l p =
    let o = p.is 0 in
    record {
      before = area;
      cells = o.cells;
      next = y;
      room = l;
      is = rw (← item-tree c q t parts x) o.is;
      stand = o.stand;
    }

-- a lone column's position stands in its cell
column-stands : (n i : ℕ) (area before : List ℕ) → cells_end n ≤ length before
    → take (cells_end (n + 1)) area ≡ take (cells_end n) before ++ cells_numbers (C.column i ∷ [])
    → get_or area (cells_end n + 1) 0 ≡ i
unfolding cells_numbers concat cell_numbers
column-stands n i area before l h =
    let b : List ℕ = take (cells_end n) before in
    let e : length b ≡ cells_end n = length-take-le (cells_end n) before l in
    let g : get_or (take (cells_end (n + 1)) area) (cells_end n + 1) 0 ≡ get_or area (cells_end n + 1) 0 =
    get_or-take (cells_end (n + 1)) area (cells_end n + 1) 0 (omega arith) in
    sym g ∙ ap (λ (ys : List ℕ). get_or ys (cells_end n + 1) 0) h ∙ ap (λ (j : ℕ). get_or (b ++ (6 ∷ i ∷ 0 ∷ 0 ∷ [])) (j + 1) 0) (sym e)
    ∙ get_or-append-add b (6 ∷ i ∷ 0 ∷ 0 ∷ []) 1 0

module _ {c q : Bytes} {t parts xs ms ts : List ℕ} {x : Item} {n : ℕ} {area : List ℕ}
    (s : ItemStands c q t parts xs ms ts x n area) (z : some_match ms ≡ false) where
  abbrev here : rules.Scope
  here = scope_at c q t xs ms ts 0

  nothing-matched : (e : Expr) → rules.matched here e ≡ none
  unfolding matches_of rules.match_at
  nothing-matched e =
      let y : scope_from (tree_at c q t) c q xs [] ts 0 ≡ here =
      ap (λ (us : List ℕ). scope_from (tree_at c q t) c q xs us ts 0) (used-none ms z) ∙ used-scope (tree_at c q t) c q xs ms ts 0 in
      rw (← y) (matched-from (tree_at c q t) c q xs [] ts 0 e)

  looked : (f : rules.Found) (l : ℕ) → column_step n l f ≡ ok (s.cells, s.next)
      → get_or xs (get_or area (cells_end n + 1) 0) 0 ≡ found_number xs f
  unfolding column_step found ◌>>=◌ refuse found_number
  looked (rules.at i) l h =
      let y : ◌≡◌ {A = List Cell × ℕ} (C.column i ∷ [], n + 1) (s.cells, s.next) = cc in
      let d : C.column i ∷ [] ≡ s.cells = ap (λ u. u.0) y in
      let m : n + 1 ≡ s.next = ap (λ u. u.1) y in
      ap (λ (k : ℕ). get_or xs k 0) (column-stands n i area s.before s.room (rw (d, m) s.stand))
  looked (rules.missing k) l h = ok-not-refused _ _ (sym h)

  passed-cell : (e : Expr) → emit here n e ≡ ok (s.cells, s.next) → cell_label xs area n e ≡ passed_number xs here e
  unfolding cell_label passed_number as_column
  passed-cell (star l) h = refl
  passed-cell (column l o w) h =
      looked (rules.lookup here o w) l (sym (column-is here n l o w (nothing-matched (column l o w))) ∙ h)
  passed-cell (literal l v) h = refl
  passed-cell (call l w as') h = refl
  passed-cell (unary l o a) h = refl
  passed-cell (binary l o a b) h = refl
  passed-cell (is l a v) h = refl

  pub label-cell : {k r l : ℕ} → k ≡ alias_length c q parts x → k ≡ 0 → r ≡ row_of parts x
      → l ≡ cell_label xs area n (tree_at c q t r) → l ≡ label_number c q t parts xs ms ts x
  label-cell {k} {r} {l} e h f g =
      let y : l ≡ cell_label xs area n (tree_at c q t (row_of parts x)) = rw f at g in
      y ∙ passed-cell (tree_at c q t (row_of parts x)) s.is ∙ sym (number_passed c q t parts xs ms ts x (sym e ∙ h))

nothing-some : some_match [] ≡ false
unfolding some_match any
nothing-some = refl

-- there are matches in use where something is matched
pub some-used : (us ms : List ℕ) → us ≡ used_matches ms → not (eqb (length us) 0) ≡ some_match ms
unfolding used_matches
some-used us ms e = go us (some_match ms) refl e
  where
    go : (vs : List ℕ) (b : Bool) → some_match ms ≡ b → vs ≡ elim b [ true ↦ ms | false ↦ [] ] → not (eqb (length vs) 0) ≡ b
    go [] true h g = let y : false ≡ true = sym nothing-some ∙ ap some_match g ∙ h in cc
    go [] false h g = refl
    go (v ∷ vs) true h g = rw (ne_eqb (length (v ∷ vs)) 0 (λ z. omega arith))
    go (v ∷ vs) false h g = absurd (omega (arith, ap length g))

-- BY THE KIND OF A ROW
named-tree : (c q : Bytes) (t : List ℕ) (r : ℕ) {k : Kind} → (k ≡ K.Column) ⊎ (k ≡ K.Qualified)
    → (w : ColumnName) × (as_column (tree_of (tree_at c q t) k c q t r) ≡ some w)
unfolding as_column tree_of
named-tree c q t r (inl e) = rw e (_, refl)
named-tree c q t r (inr e) = rw e (_, refl)

unnamed-tree : (c q : Bytes) (t : List ℕ) (r : ℕ) (k : Kind) → (k ≡ K.Column → ⊥) → (k ≡ K.Qualified → ⊥)
    → as_column (tree_of (tree_at c q t) k c q t r) ≡ none
unfolding as_column tree_of
unnamed-tree c q t r K.Star f g = refl
unnamed-tree c q t r K.Column f g = absurd (f refl)
unnamed-tree c q t r K.Qualified f g = absurd (g refl)
unnamed-tree c q t r K.Call f g = refl
unnamed-tree c q t r K.Unary f g = refl
unnamed-tree c q t r K.Binary f g = refl
unnamed-tree c q t r K.Is f g = refl
unnamed-tree c q t r K.Literal f g = refl

module _ (xs area : List ℕ) (n : ℕ) (t : List ℕ) (r : ℕ) (k : Kind) (h : number_of k ≡ kind_at t r) where
  row_label : (c q : Bytes) → cell_label xs area n (tree_at c q t r) ≡ cell_label xs area n (tree_of (tree_at c q t) k c q t r)
  row_label c q = ap (cell_label xs area n) (row-tree c q t r k h)

  -- a column name
  pub cell-named : {p l : ℕ} → (k ≡ K.Column) ⊎ (k ≡ K.Qualified) → p ≡ get_or area (cells_end n + 1) 0 → l ≡ get_or xs p 0
      → (c q : Bytes) → l ≡ cell_label xs area n (tree_at c q t r)
  unfolding cell_label
  cell-named e f g c q = (rw f at g) ∙ sym (row_label c q ∙ rw (cell_label, (named-tree c q t r e).1))

  -- anything else
  pub cell-none : (k ≡ K.Column → ⊥) → (k ≡ K.Qualified → ⊥) → (c q : Bytes) → 0 ≡ cell_label xs area n (tree_at c q t r)
  unfolding cell_label
  cell-none f g c q = sym (row_label c q ∙ rw (cell_label, unnamed-tree c q t r k f g))
