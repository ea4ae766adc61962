-- SELECT's items: stars expanded (planner.rs, build_select).
use Rattle.std.specs.Prelude.{ℕ, Bool, true, false, ◌&&◌, not, List, [], ◌∷◌, ◌++◌, map, eqb}
use Rattle.std.proofs.Math.Option.{Option, none, some}
use Rattle.rules.specs.Refusals.{Answer, ok, ◌>>◌, refuse_if, at_most, star_without_from}
use Rattle.rules.specs.Limits.{most_columns}
use Rattle.rules.specs.Lists.{is_empty, is_some}
use Rattle.rules.specs.Lines as Lines
use Rattle.rules.specs.Ast.{column, Item, Select}
use Rattle.rules.specs.Views.{as_star}
use Rattle.rules.specs.Plan.{Built, Node, column_count, Label, nameless, unqualified, qualified, labels}

-- the line of the first star with no alias
unfoldable pub plain_star : List Item → Option ℕ
plain_star [] = none
plain_star (i ∷ is') = elim i.alias [
  | some a ↦ plain_star is'
  | none ↦ elim (as_star i.expr) [ some l ↦ some l | none ↦ plain_star is' ]
]

-- a plain star that stands alone
unfoldable pub is_lone : List Item → Bool
is_lone [] = false
is_lone (i ∷ []) = is_some (plain_star (i ∷ []))
is_lone (i ∷ (j ∷ r)) = false

-- `From<Label> for ast::Expression`: a column by its label's names. All labels of FROM are qualified (the claim
-- `from-qualified`), so the first two cases do not arise.
unfoldable pub starred_column : ℕ → Label → Item
starred_column l nameless = record { line = l; expr = column l none (Lines.empty 0); alias = none }
starred_column l (unqualified n) = record { line = l; expr = column l none n; alias = none }
starred_column l (qualified t n) = record { line = l; expr = column l (some t) n; alias = none }

-- Every star replaced by FROM's columns, by their names: `SELECT *, 1 FROM t` with columns a, b is
-- `SELECT t.a, t.b, 1`. An alias of a star is lost.
unfoldable pub expand_stars : List Label → List Item → List Item
expand_stars ls [] = []
expand_stars ls (i ∷ is') = elim (as_star i.expr) [
  | some l ↦ map (starred_column l) ls ++ expand_stars ls is'
  | none ↦ i ∷ expand_stars ls is'
]

-- whether stars are expanded: a plain one stands beside other items, or there are groups
unfoldable pub stars_expand : Select → Bool
stars_expand q = is_some (plain_star q.items) && not (is_lone q.items && is_empty q.group)

unfoldable pub expanded_items : Select → List Label → List Item
expanded_items q ls = elim (stars_expand q) [ true ↦ expand_stars ls q.items | false ↦ q.items ]

-- 16 a plain star over no columns
unfoldable pub stars_have_columns : Option ℕ → ℕ → Answer (Unit {0})
stars_have_columns none w = ok tt
stars_have_columns (some l) w = refuse_if (eqb w 0) star_without_from l

-- the items over FROM's node; 3 at the star or the item past the most
unfoldable pub build_items : Select → Node Built → Answer (List Item)
build_items q n = do
  stars_have_columns (plain_star q.items) (column_count n)
  at_most most_columns (λ (i : Item). i.line) (expanded_items q (labels n))
  ok (expanded_items q (labels n))
