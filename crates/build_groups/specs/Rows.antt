-- The rows of a SELECT's groups, and of the aggregates in its items, HAVING and ORDER.
use Rattle.std.specs.Prelude.{ℕ, suc, ◌+◌, ◌-◌, ◌≤◌, ◌<◌, ◌≡◌, Option, None, Some}
use native.Mathlib.Omega.{arith}
use Rattle.std.proofs.Common.{add-one, ◌∙◌}
use Rattle.std.proofs.Math.Path.{refl, sym, ap}
use mathlib.Core.List.{List, [], ◌∷◌, ◌++◌, map, map-append, map-map}
use Rattle.std.proofs.Math.Option.{some, some-injective}
use Rattle.std.proofs.Math.ListN.{length, get_or}
use Rattle.rules.specs.Lists.{Bytes, entry_after, given, map_option}
use Rattle.rules.specs.Ast.{Expr, Item, Key}
use Rattle.rules.specs.BuildExpression.{clause_expr}
use Rattle.rules.specs.BuildAggregate.{collect_each}
use Rattle.rules.specs.BuildSelect.{later_of, functions_of}
use Rattle.appends.specs.Scopes.Stars.{collect_each-append}
use Rattle.ast.specs.Table.{tree_at}
use Rattle.ast.specs.Collect.{collect_rows}
use Rattle.ast.proofs.Trees.{collect-trees}
use Rattle.scope.specs.Scopes.{up_to}
use Rattle.entries.specs.Entries.{Entry}
use Rattle.sections.specs.Layout.{start_of, section_at}
use Rattle.sections.specs.Access.{item_kind, group_kind, having_kind, order_kind, numbers_at, section-count}
use Rattle.sections.specs.Expressions.{outside_row, expr_row}
use Rattle.statement.specs.Layout.{map_entries, to_item, to_group, to_key, to_clause, select_of}
use Rattle.statement.specs.Access.{select_at}
use Rattle.statement.specs.EntryAccess.{clause_at, clause_of, clause-is, group_at, map-length}
use Rattle.statement.specs.declared.access.Clause as Cl

-- THE SELECT'S groups, and the aggregates of its items, HAVING and ORDER, whatever FROM is
unfoldable pub groups_at : Bytes → Bytes → List ℕ → List ℕ → List Expr
groups_at c q t parts = (select_at c q t [] parts).group

unfoldable pub functions_at : Bytes → Bytes → List ℕ → List ℕ → List Expr
functions_at c q t parts = functions_of (select_at c q t [] parts).items (later_of (select_at c q t [] parts))

module _ (c q : Bytes) (t froms parts : List ℕ) where
  pub select-groups : (select_at c q t froms parts).group ≡ groups_at c q t parts
  unfolding groups_at select_at select_of
  select-groups = refl

  pub select-functions : functions_of (select_at c q t froms parts).items (later_of (select_at c q t froms parts))
      ≡ functions_at c q t parts
  unfolding functions_at later_of select_at select_of
  select-functions = refl

-- ROWS
-- of the expressions of n entries of a section, from the i-th on
unfoldable pub entry_rows : List ℕ → ℕ → ℕ → ℕ → List ℕ
entry_rows parts kind i n = map (λ k. expr_row (numbers_at parts kind k)) (up_to i n)

-- of all entries
unfoldable pub section_rows : List ℕ → ℕ → List ℕ
section_rows parts kind = entry_rows parts kind 0 (get_or parts (start_of kind) 0)

-- of a clause
unfoldable pub clause_rows : Option Cl.Clause → List ℕ
clause_rows None = []
clause_rows (Some clause) = clause.row ∷ []

-- of the aggregates in the trees at rows
unfoldable pub collect_each_rows : Bytes → Bytes → List ℕ → List ℕ → List ℕ
collect_each_rows c q t [] = []
collect_each_rows c q t (r ∷ rs) = collect_rows c q t r ++ collect_each_rows c q t rs

-- of the aggregates in the items, HAVING and ORDER
unfoldable pub function_rows : Bytes → Bytes → List ℕ → List ℕ → List ℕ
function_rows c q t parts = collect_each_rows c q t (section_rows parts item_kind)
    ++ (collect_each_rows c q t (clause_rows (clause_at parts having_kind))
    ++ collect_each_rows c q t (section_rows parts order_kind))

-- ONE AFTER THE OTHER
pub entries_none : (parts : List ℕ) (kind i n : ℕ) → n ≤ i → entry_rows parts kind i (n - i) ≡ []
unfolding entry_rows up_to
entries_none parts kind i n h = let z : n - i ≡ 0 = omega arith in rw z

pub entries-more : (parts : List ℕ) (kind i n : ℕ) → i < n
    → entry_rows parts kind i (n - i) ≡ expr_row (numbers_at parts kind i) ∷ entry_rows parts kind (i + 1) (n - (i + 1))
unfolding entry_rows up_to
entries-more parts kind i n h =
    let z : n - i ≡ suc (n - (i + 1)) = omega arith in
    rw (z, add-one i)

-- by the number of entries
pub section-entries : (parts : List ℕ) (kind n : ℕ) → ((b q : Bytes) (t : List ℕ) → n ≡ length (section_at b q t parts kind))
    → entry_rows parts kind 0 (n - 0) ≡ section_rows parts kind
unfolding section_rows
section-entries parts kind n h =
    let z : n - 0 ≡ get_or parts (start_of kind) 0 = omega (arith, h [] [] [], section-count [] [] [] parts kind) in
    rw z

-- TREES
-- a list by its entries
by_entries : {A : Type 0} (f : ℕ → A) (i : ℕ) (xs : List A)
    → ((k : ℕ) → k < length xs → entry_after k xs ≡ some (f (i + k))) → map f (up_to i (length xs)) ≡ xs
unfolding up_to entry_after
by_entries f i [] h = refl
by_entries {A} f i (x ∷ xs) h =
    let z : i + 0 ≡ i = omega arith in
    let e : x ≡ f i = rw z at (some-injective x (f (i + 0)) (h 0 (omega arith))) in
    rw (← e) (ap (λ ys. x ∷ ys) (by_entries f (suc i) xs (λ k l.
    let y : i + suc k ≡ suc i + k = omega arith in
    rw y at (h (suc k) (omega arith)))))

item-exprs : (es : List Entry) → map (λ (i : Item). i.expr) (map_entries to_item es) ≡ map_entries to_group es
unfolding map_entries to_item to_group
item-exprs [] = refl
item-exprs (e ∷ es) = ap (λ ys. to_group e ∷ ys) (item-exprs es)

key-exprs : (es : List Entry) → map (λ (k : Key). k.expr) (map_entries to_key es) ≡ map_entries to_group es
unfolding map_entries to_key to_group
key-exprs [] = refl
key-exprs (e ∷ es) = ap (λ ys. to_group e ∷ ys) (key-exprs es)

module _ (c q : Bytes) (t : List ℕ) where
  pub each-trees : (rs : List ℕ) → map (tree_at c q t) (collect_each_rows c q t rs) ≡ collect_each (map (tree_at c q t) rs)
  unfolding collect_each_rows collect_each
  each-trees [] = refl
  each-trees (r ∷ rs) = map-append (tree_at c q t) (collect_rows c q t r) _ ∙ rw (collect-trees c q t r, each-trees rs)

  module _ (l : length t ≤ outside_row) (parts : List ℕ) where
    pub section-trees : (kind : ℕ) → map (tree_at c q t) (section_rows parts kind) ≡ map_entries to_group (section_at c q t parts kind)
    unfolding section_rows entry_rows
    section-trees kind =
        let xs = map_entries to_group (section_at c q t parts kind) in
        let m : length xs ≡ length (section_at c q t parts kind) = map-length to_group (section_at c q t parts kind) in
        let n : length xs ≡ get_or parts (start_of kind) 0 = m ∙ section-count c q t parts kind in
        map-map (tree_at c q t) (λ k. expr_row (numbers_at parts kind k)) (up_to 0 (get_or parts (start_of kind) 0))
        ∙ rw (← n) (by_entries (λ k. tree_at c q t (expr_row (numbers_at parts kind k))) 0 xs
        (λ k h.
        let z : 0 + k ≡ k = omega arith in
        rw z (group_at c q t parts kind k (numbers_at parts kind k) refl (omega (arith, m)) l)))

    clause-trees : (x : Option Cl.Clause) → map (tree_at c q t) (clause_rows x) ≡ given (clause_expr (clause_of c q t x))
    unfolding clause_rows clause_of clause_expr given map_option
    clause-trees None = refl
    clause-trees (Some clause) = refl

    -- they are the SELECT's groups
    pub group-trees : map (tree_at c q t) (section_rows parts group_kind) ≡ groups_at c q t parts
    unfolding groups_at select_at select_of
    group-trees = section-trees group_kind

    -- and its aggregates
    pub function-trees : map (tree_at c q t) (function_rows c q t parts) ≡ functions_at c q t parts
    unfolding function_rows functions_at functions_of later_of select_at select_of
    function-trees =
        let tree = tree_at c q t in
        let is' = section_rows parts item_kind in
        let hs = clause_rows (clause_at parts having_kind) in
        let os = section_rows parts order_kind in
        let a : map tree is' ≡ map (λ (i : Item). i.expr) (map_entries to_item (section_at c q t parts item_kind)) =
        section-trees item_kind ∙ sym (item-exprs (section_at c q t parts item_kind)) in
        let b : map tree hs ≡ given (clause_expr (to_clause (section_at c q t parts having_kind))) =
        clause-trees (clause_at parts having_kind)
        ∙ ap (λ x. given (clause_expr x)) (sym (clause-is parts having_kind c q t l (clause_at parts having_kind) refl)) in
        let d : map tree os ≡ map (λ (k : Key). k.expr) (map_entries to_key (section_at c q t parts order_kind)) =
        section-trees order_kind ∙ sym (key-exprs (section_at c q t parts order_kind)) in
        map-append tree (collect_each_rows c q t is') _
        ∙ rw (
          map-append tree (collect_each_rows c q t hs) (collect_each_rows c q t os),
          each-trees is',
          each-trees hs,
          each-trees os,
          a,
          b,
          d,
        )
        (sym (collect_each-append (map (λ (i : Item). i.expr) (map_entries to_item (section_at c q t parts item_kind))) _
        ∙ rw (collect_each-append (given (clause_expr (to_clause (section_at c q t parts having_kind)))) _)))
