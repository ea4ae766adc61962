-- FROM (planner.rs, build_from_clause and build_from).
use Rattle.std.specs.Prelude.{ℕ, zero, suc, ◌+◌, Bool, true, false, List, [], ◌∷◌, ◌++◌, ltb}
use Rattle.std.proofs.Math.Option.{Option, none, some}
use Rattle.rules.specs.Refusals.{Answer, ok, ◌>>=◌, ◌>>◌, refuse_if, limit_passed, duplicate_table}
use Rattle.rules.specs.Limits.{most_columns}
use Rattle.rules.specs.Lists.{or_else}
use Rattle.rules.specs.Lines.{Word}
use Rattle.rules.specs.Schema.{Table, Catalog, must_get_table}
use Rattle.rules.specs.Ast.{Expr, Join, cross, inner, left, right, From}
use Rattle.rules.specs.Ast as Ast
use Rattle.rules.specs.Plan.{Built, Node}
use Rattle.rules.specs.Plan as P
use Rattle.rules.specs.Scope.{Scope, empty, width, from_table, shares, merge, remap}
use Rattle.rules.specs.BuildExpression.{build_option}
use Rattle.rules.specs.Stage.{Stage}

-- a built FROM item: its node, its own scope and the line of its record
pub record Source : Type 0 where
  pub node : Node Built
  pub scope : Scope
  pub line : ℕ

-- Scope::merge: 6 a table name already held, then 3 the width
unfoldable pub merge_into : Scope → Source → Answer Scope
merge_into s f = do
  refuse_if (shares s.tables f.scope.tables) duplicate_table f.line
  refuse_if (ltb most_columns (width s + width f.scope)) limit_passed f.line
  ok (merge s f.scope)

-- JOINS
-- JoinType::is_outer
unfoldable pub is_outer : Join → Bool
is_outer cross = false
is_outer inner = false
is_outer left = true
is_outer right = true

unfoldable pub is_right : Join → Bool
is_right cross = false
is_right inner = false
is_right left = false
is_right right = true

-- the two sides of a join, the first built before the second, with the predicate that reads both
pub record Sides : Type 0 where
  pub first : Source
  pub second : Source
  pub scope : Scope
  pub predicate : Option Built

-- the sides, each merged into the join's own scope as soon as it is built, then the predicate
unfoldable pub build_sides : Option Expr → Answer Source → Answer Source → Answer Sides
build_sides p first' second' = do
  a ← first'
  s ← merge_into empty a
  b ← second'
  t ← merge_into s b
  x ← build_option t p
  ok (record { first = a; second = b; scope = t; predicate = x })

unfoldable pub join_node : Bool → Sides → Node Built
join_node outer d = P.join d.first.node d.second.node d.predicate outer

-- n targets from i on
unfoldable pub rising : ℕ → ℕ → List (Option ℕ)
rising i zero = []
rising i (suc n) = some i ∷ rising (i + 1) n

-- the targets that swap a columns with the b behind them: (i + b) % (a + b) at i
unfoldable pub swapped : ℕ → ℕ → List (Option ℕ)
swapped a b = rising b a ++ rising 0 b

unfoldable pub swap_targets : Sides → List (Option ℕ)
swap_targets d = swapped (width d.first.scope) (width d.second.scope)

-- the sides in the order in which the statement has them
unfoldable pub join_in_order : ℕ → Bool → Sides → Source
join_in_order l outer d = record { node = join_node outer d; scope = d.scope; line = l }

-- the sides in the other order, and the columns of their join swapped back
unfoldable pub join_swapped : ℕ → Bool → Sides → Source
join_swapped l outer d = record {
  node = P.remap (join_node outer d) (swap_targets d);
  scope = remap d.scope (swap_targets d);
  line = l;
}

-- A right join is a left join of the swapped sides, its right side built first: `t RIGHT JOIN u` of 2 and 3 columns
-- scans u, then t, joins them outer, and puts the columns at 2 3 4 0 1.
unfoldable pub build_join : ℕ → Join → Option Expr → Answer Source → Answer Source → Answer Source
build_join l j p a b = elim (is_right j) [
  | false ↦ do
    d ← build_sides p a b
    ok (join_in_order l (is_outer j) d)
  | true ↦ do
    d ← build_sides p b a
    ok (join_swapped l (is_outer j) d)
]

-- FROM
unfoldable pub scan_of : ℕ → Option Word → Table → Source
scan_of l a t = record { node = P.scan t a none; scope = from_table (or_else a t.name) t; line = l }

-- build_from
unfoldable pub build_from : Catalog → From → Answer Source
build_from c (Ast.table l n a) = do
  t ← must_get_table c l n
  ok (scan_of l a t)
build_from c (Ast.join l j a b p) = build_join l j p (build_from c a) (build_from c b)

-- build_from_clause, the items behind the first: `FROM a, b` is an inner join with no predicate
unfoldable pub build_later_items : Catalog → List From → Stage → Answer Stage
build_later_items c [] r = ok r
build_later_items c (f ∷ fs) r = do
  g ← build_from c f
  t ← merge_into r.scope g
  build_later_items c fs (record { node = P.join r.node g.node none false; scope = t })

-- build_from_clause; with no FROM there is one row of no columns to project with
unfoldable pub build_from_clause : Catalog → List From → Answer Stage
build_from_clause c [] = ok (record { node = P.values ([] ∷ []); scope = empty })
build_from_clause c (f ∷ fs) = do
  g ← build_from c f
  t ← merge_into empty g
  build_later_items c fs (record { node = g.node; scope = t })
