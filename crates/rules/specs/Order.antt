-- Document 01's order of cells ("Order: join predicates, WHERE, groups, .."): the expressions of a SELECT's plan, each
-- with the scope that it reads, from statement and catalog alone.
use Rattle.std.specs.Prelude.{ℕ, true, false, List, [], ◌∷◌, ◌++◌, map}
use Rattle.std.proofs.Math.Option.{Option, none, some}
use Rattle.rules.specs.Refusals.{Answer, ok, ◌>>=◌}
use Rattle.rules.specs.Lists.{or_else, given, concat}
use Rattle.rules.specs.Lines.{Word}
use Rattle.rules.specs.Schema.{Table, Catalog, get_table, named_by}
use Rattle.rules.specs.Ast.{Expr, Join, From, Item, Key, Select}
use Rattle.rules.specs.Ast as Ast
use Rattle.rules.specs.Plan.{Built}
use Rattle.rules.specs.Plan as P
use Rattle.rules.specs.Scope.{Scope, empty, width, from_table, merge, remap}
use Rattle.rules.specs.BuildExpression.{build, clause_expr}
use Rattle.rules.specs.BuildAggregate.{build_function, retain_groups, retain_functions, aggregated}
use Rattle.rules.specs.BuildFrom.{is_right, swapped}
use Rattle.rules.specs.Items.{is_lone, expanded_items}
use Rattle.rules.specs.Hidden.{HiddenColumn, projected}
use Rattle.rules.specs.BuildSelect.{later_of, functions_of}

-- SCOPES
-- What an expression becomes depends on the scope that it reads. The scopes of building come with a plan and only where
-- nothing is refused; order and count may not look at a plan, so these are made from statement and catalog alone.
unfoldable pub scan_scope : Option Word → Word → Option Table → Scope
scan_scope a n none = empty
scan_scope a n (some t) = from_table (or_else a n) (named_by n t)

-- two sides in the order in which they are built
unfoldable pub sides_scope : Scope → Scope → Scope
sides_scope a b = merge (merge empty a) b

-- the scope that a join's predicate reads
unfoldable pub predicate_scope : Join → Scope → Scope → Scope
predicate_scope j a b = elim (is_right j) [ true ↦ sides_scope b a | false ↦ sides_scope a b ]

unfoldable pub join_scope : Join → Scope → Scope → Scope
join_scope j a b = elim (is_right j) [
  | true ↦ remap (sides_scope b a) (swapped (width b) (width a))
  | false ↦ sides_scope a b
]

unfoldable pub scope_of : Catalog → From → Scope
scope_of c (Ast.table l n a) = scan_scope a n (get_table c n.bytes)
scope_of c (Ast.join l j a b p) = join_scope j (scope_of c a) (scope_of c b)

-- FROM's, behind s
unfoldable pub from_scope : Catalog → List From → Scope → Scope
from_scope c [] s = s
from_scope c (f ∷ fs) s = from_scope c fs (merge s (scope_of c f))

-- behind the groups and aggregates
unfoldable pub group_scope : Scope → List Expr → List Expr → Scope
group_scope s gs fs = elim (aggregated gs fs) [ true ↦ (retain_functions s gs fs).scope | false ↦ s ]

-- behind the items and hidden columns
unfoldable pub item_scope : Scope → List Item → List Expr → Scope
item_scope s is' later = elim (is_lone is') [ true ↦ s | false ↦ (projected s is' later).scope ]

-- the scopes that a SELECT's clauses read, and its items after star expansion
pub record Reads : Type 0 where
  pub from : Scope
  pub items : List Item
  pub groups : Scope
  pub projection : Scope

unfoldable pub reads_of : Catalog → Select → Reads
reads_of c q =
    let s = from_scope c q.from empty in
    let is' = expanded_items q s.columns in
    let g = group_scope s q.group (functions_of is' (later_of q)) in
    record { from = s; items = is'; groups = g; projection = item_scope g is' (later_of q) }

-- EXPRESSIONS
-- an expression of the plan: one of the statement's over a scope, the argument of an aggregate function, or a hidden
-- column passed through
pub data Use : Type 0 where
  over : Scope → Expr → Use
  argument_of : Scope → Expr → Use
  through : ℕ → Use

unfoldable pub build_use : Use → Answer Built
build_use (over s e) = build s e
build_use (argument_of s e) = do
  f ← build_function s e
  ok f.1
build_use (through i) = ok (P.column i)

-- the predicates of a FROM item's joins, those of its sides first: of the side that is built first before the other's
unfoldable pub join_uses : Catalog → From → List Use
join_uses c (Ast.table l n a) = []
join_uses c (Ast.join l j a b p) =
    (elim (is_right j) [ true ↦ join_uses c b ++ join_uses c a | false ↦ join_uses c a ++ join_uses c b ])
    ++ map (over (predicate_scope j (scope_of c a) (scope_of c b))) (given p)

-- the groups, then the aggregates' arguments, each different one once
unfoldable pub group_uses : Scope → List Expr → List Expr → List Use
group_uses s gs fs = elim (aggregated gs fs) [
  | true ↦ map (over s) (retain_groups s gs).exprs ++ map (argument_of s) (retain_functions s gs fs).exprs
  | false ↦ []
]

-- the items, then the hidden columns
unfoldable pub item_uses : Scope → List Item → List Expr → List Use
item_uses s is' later = elim (is_lone is') [
  | true ↦ []
  | false ↦ map (λ (i : Item). over s i.expr) is'
      ++ map (λ (h : HiddenColumn). through h.position) (projected s is' later).columns
]

unfoldable pub uses_over : Catalog → Select → Reads → List Use
uses_over c q r =
    concat (map (join_uses c) q.from)
    ++ (map (over r.from) (given (clause_expr q.filter))
    ++ (group_uses r.from q.group (functions_of r.items (later_of q))
    ++ (item_uses r.groups r.items (later_of q)
    ++ (map (over r.projection) (given (clause_expr q.having))
    ++ map (λ (k : Key). over r.projection k.expr) q.order))))

-- document 01's order
unfoldable pub uses_of : Catalog → Select → List Use
uses_of c q = uses_over c q (reads_of c q)
