-- What each clause of a SELECT appends to the cells, at most, where it is accepted.
use Rattle.std.specs.Prelude.{ℕ, ◌+◌, ◌-◌, ◌≤◌, ◌≡◌, refl, List, [], ◌∷◌, ◌++◌, map, length}
use Rattle.std.proofs.Common.{arith}
use Rattle.std.proofs.Math.Option.{Option, none, some}
use Rattle.rules.specs.Refusals.{refuse_if, at_most, having_without_aggregate}
use Rattle.rules.specs.Limits.{most_columns}
use Rattle.rules.specs.Lists.{given, is_empty, map_option}
use Rattle.rules.specs.Ast.{Expr, line_of, Item, Key, Clause}
use Rattle.rules.specs.Plan.{Built, Node}
use Rattle.rules.specs.Plan as P
use Rattle.rules.specs.Cells.{built_count, count_all, expressions, cell_count}
use Rattle.rules.specs.Scope.{Scope}
use Rattle.rules.specs.BuildExpression.{build, each, build_option, clause_expr}
use Rattle.rules.specs.Stage.{Stage}
use Rattle.rules.specs.BuildAggregate.{retain_groups, retain_functions, build_function, build_aggregate, aggregated, build_groups}
use Rattle.rules.specs.Items.{is_lone}
use Rattle.rules.specs.Hidden.{HiddenColumn, projected}
use Rattle.rules.specs.BuildSelect.{filtered, build_where, item_built, hidden_built, project_items, build_projection}
use Rattle.rules.specs.BuildSelect.{build_having, key_built, build_order}
use Rattle.rules.specs.Sizes.{total}
use Rattle.rules.specs.Count.{argument_cost}
use Rattle.claims.specs.Answers.{Ensures, then, past, weaken}
use Rattle.claims.specs.Cases.{tested}
use Rattle.std.proofs.lemmas.List.{map-append}
use Rattle.claims.specs.Count.Costs.{function-cost}
use Rattle.appends.specs.Lists.Joined.{count-append}
use Rattle.appends.specs.Room.Written.{written, written-whole}
use Rattle.appends.specs.Room.Entries.{entries-within}
use Rattle.appends.specs.Room.From.{option-within}
use Rattle.appends.specs.Room.Statements.{exprs-within}

-- the groups and functions that are kept, over a scope
unfoldable pub groups_written : Scope → List Expr → List Expr → ℕ
groups_written s gs fs =
    total (written s) (retain_groups s gs).exprs + total (argument_cost s) (retain_functions s gs fs).exprs

-- the items and the hidden columns
unfoldable pub items_written : Scope → List Item → List Expr → ℕ
items_written s is' later = total (λ (i : Item). written s i.expr) is' + length (projected s is' later).columns

unfoldable pub keys_written : Scope → List Key → ℕ
keys_written s ks = total (λ (k : Key). written s k.expr) ks

-- WHERE
filter-cells : (n : Node Built) (x : Built) → cell_count (P.filter n x) ≡ cell_count n + built_count x
unfolding cell_count expressions count_all
filter-cells n x = omega (arith, count-append (expressions n) (x ∷ []))

filtered-cells : (n : Node Built) (x : Option Built) → cell_count (filtered n x) ≡ cell_count n + count_all (given x)
unfolding filtered given count_all
filtered-cells n none = omega arith
filtered-cells n (some x) = omega (arith, filter-cells n x)

pub where-cells : (f : Stage) (c : Option Clause) → Ensures (build_where f c)
    (λ w. (cell_count w.node ≤ cell_count f.node + total (written f.scope) (given (clause_expr c)))
    × (w.scope ≡ f.scope))
unfolding build_where
where-cells f c =
    then (build_option f.scope (clause_expr c)) _ _ _ (option-within f.scope (clause_expr c)) λ x h.
    (omega (arith, h, filtered-cells f.node x), refl)

-- GROUPS
function-within : (s : Scope) (e : Expr) → Ensures (build_function s e) (λ f. built_count f.1 ≤ argument_cost s e)
function-within s e = weaken (build_function s e) _ _ (λ f h. omega (arith, h)) (function-cost s e)

aggregate-cells : (n : Node Built) (gs fs : List Expr) (s : Scope)
    → Ensures (build_aggregate n gs fs s) (λ a. cell_count a.node ≤ cell_count n + groups_written s gs fs)
unfolding build_aggregate groups_written cell_count expressions
aggregate-cells n gs fs s =
    let g = (retain_groups s gs).exprs in
    let f = (retain_functions s gs fs).exprs in
    then (each (build s) g) _ _ _ (exprs-within s g) λ xs hx.
    then (each (build_function s) f) _ _ _
    (entries-within (build_function s) (λ y. y.1) (argument_cost s) (function-within s) f) λ ys hy.
    past (at_most most_columns line_of (g ++ f)) _ _ λ u.
    omega (
      arith,
      hx,
      hy,
      count-append (expressions n) (xs ++ map (λ y. y.1) ys),
      count-append xs (map (λ y. y.1) ys),
    )

pub groups-cells : (w : Stage) (gs fs : List Expr) → Ensures (build_groups w gs fs)
    (λ a. cell_count a.node ≤ cell_count w.node + groups_written w.scope gs fs)
unfolding build_groups
groups-cells w gs fs =
    tested (aggregated gs fs) _ _ _ (aggregate-cells w.node gs fs w.scope) (omega arith)

-- ITEMS
item-within : (s : Scope) (i : Item) → Ensures (item_built s i) (λ x. built_count x.0 ≤ written s i.expr)
unfolding item_built
item-within s i = then (build s i.expr) _ _ _ (written-whole s i.expr) λ x h. omega (arith, h)

hidden-count : (cs : List HiddenColumn) → count_all (map (λ x. x.0) (map hidden_built cs)) ≡ length cs
unfolding count_all hidden_built built_count
hidden-count [] = refl
hidden-count (c ∷ cs) = omega (arith, hidden-count cs)

items-cells : (a : Stage) (is' : List Item) (later : List Expr) → Ensures (project_items a is' later)
    (λ p. cell_count p.node ≤ cell_count a.node + items_written a.scope is' later)
unfolding project_items items_written cell_count expressions
items-cells a is' later =
    let s = a.scope in
    let cs = (projected s is' later).columns in
    then (each (item_built s) is') _ _ _
    (entries-within (item_built s) (λ x. x.0) (λ (i : Item). written s i.expr) (item-within s) is') λ xs hx.
    past (at_most (most_columns - length is') (λ (c : HiddenColumn). c.line) cs) _ _ λ u.
    rw (map-append (λ x. x.0) xs (map hidden_built cs)) (omega (
      arith,
      hx,
      count-append (expressions a.node) (map (λ x. x.0) xs ++ map (λ x. x.0) (map hidden_built cs)),
      count-append (map (λ x. x.0) xs) (map (λ x. x.0) (map hidden_built cs)),
      hidden-count cs,
    ))

pub projection-cells : (a : Stage) (is' : List Item) (later : List Expr) → Ensures (build_projection a is' later)
    (λ p. cell_count p.node ≤ cell_count a.node + items_written a.scope is' later)
unfolding build_projection
projection-cells a is' later = tested (is_lone is') _ _ _ (omega arith) (items-cells a is' later)

-- HAVING AND ORDER
pub having-cells : (n : Node Built) (c : Option Clause) (s : Scope) → Ensures (build_having n c s)
    (λ m. cell_count m ≤ cell_count n + total (written s) (given (clause_expr c)))
unfolding build_having clause_expr map_option given total
having-cells n none s = omega arith
having-cells n (some c) s =
    past (refuse_if (is_empty s.aggregates) having_without_aggregate c.line) _ _ λ u.
    then (build s c.expr) _ _ _ (written-whole s c.expr) λ x h. omega (arith, h, filter-cells n x)

key-within : (s : Scope) (k : Key) → Ensures (key_built s k) (λ x. built_count x.0 ≤ written s k.expr)
unfolding key_built
key-within s k = then (build s k.expr) _ _ _ (written-whole s k.expr) λ x h. omega (arith, h)

pub order-cells : (n : Node Built) (ks : List Key) (s : Scope)
    → Ensures (build_order n ks s) (λ m. cell_count m ≤ cell_count n + keys_written s ks)
unfolding build_order keys_written
order-cells n [] s = omega arith
order-cells n (k ∷ ks) s =
    then (each (key_built s) (k ∷ ks)) _ _ _
    (entries-within (key_built s) (λ x. x.0) (λ (k : Key). written s k.expr) (key-within s) (k ∷ ks)) λ xs h.
    unfold cell_count expressions in (omega (arith, h, count-append (expressions n) (map (λ x. x.0) xs)))
