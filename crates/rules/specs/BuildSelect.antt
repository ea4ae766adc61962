-- SELECT (planner.rs, build_select and collect_aggregates).
use Rattle.std.specs.Prelude.{ℕ, ◌-◌, Bool, true, false, List, [], ◌∷◌, ◌++◌, map, length, pos, negsuc}
use Rattle.std.proofs.Math.Option.{Option, none, some}
use Rattle.rules.specs.Refusals.{Answer, ok, ◌>>=◌, ◌>>◌, Reason, refuse, refuse_if, at_most}
use Rattle.rules.specs.Refusals.{having_without_aggregate, invalid_offset, invalid_limit}
use Rattle.rules.specs.Limits.{most_columns}
use Rattle.rules.specs.Lists.{is_empty, given}
use Rattle.rules.specs.Lines.{Word}
use Rattle.rules.specs.Schema.{Value, null, bool, int, float, text, Catalog}
use Rattle.rules.specs.Ast.{Expr, Item, Key, Clause, Select}
use Rattle.rules.specs.Plan.{Built, Node, Plan}
use Rattle.rules.specs.Plan as P
use Rattle.rules.specs.Scope.{Scope, remap_hidden}
use Rattle.rules.specs.BuildExpression.{build, each, build_option, clause_expr, constant}
use Rattle.rules.specs.Stage.{Stage}
use Rattle.rules.specs.BuildAggregate.{collect_each, build_groups}
use Rattle.rules.specs.BuildFrom.{build_from_clause}
use Rattle.rules.specs.Items.{is_lone, build_items}
use Rattle.rules.specs.Hidden.{HiddenColumn, projected}

-- WHERE
unfoldable pub filtered : Node Built → Option Built → Node Built
filtered n none = n
filtered n (some x) = P.filter n x

unfoldable pub build_where : Stage → Option Clause → Answer Stage
build_where f c = do
  x ← build_option f.scope (clause_expr c)
  ok (record { node = filtered f.node x; scope = f.scope })

-- the expressions of HAVING and ORDER
unfoldable pub later_of : Select → List Expr
later_of q = given (clause_expr q.having) ++ map (λ (k : Key). k.expr) q.order

-- collect_aggregates
unfoldable pub functions_of : List Item → List Expr → List Expr
functions_of is' later = collect_each (map (λ (i : Item). i.expr) is' ++ later)

-- ITEMS
unfoldable pub item_built : Scope → Item → Answer (Built × Option Word)
item_built s i = do
  x ← build s i.expr
  ok (x, i.alias)

-- a hidden column passes one of the source's through
unfoldable pub hidden_built : HiddenColumn → Built × Option Word
hidden_built c = (P.column c.position, none)

-- the items and the hidden columns; 3 at the record that called for the column past the most
unfoldable pub project_items : Stage → List Item → List Expr → Answer Stage
project_items f is' later = do
  xs ← each (item_built f.scope) is'
  let h = projected f.scope is' later
  at_most (most_columns - length is') (λ (c : HiddenColumn). c.line) h.columns
  ok (record { node = P.project f.node (xs ++ map hidden_built h.columns); scope = h.scope })

-- a lone star needs no projection
unfoldable pub build_projection : Stage → List Item → List Expr → Answer Stage
build_projection f is' later = elim (is_lone is') [ true ↦ ok f | false ↦ project_items f is' later ]

-- HAVING AND ORDER, over the projected scope
unfoldable pub build_having : Node Built → Option Clause → Scope → Answer (Node Built)
build_having n none s = ok n
build_having n (some c) s = do
  refuse_if (is_empty s.aggregates) having_without_aggregate c.line
  x ← build s c.expr
  ok (P.filter n x)

unfoldable pub key_built : Scope → Key → Answer (Built × Bool)
key_built s k = do
  x ← build s k.expr
  ok (x, k.descending)

unfoldable pub build_order : Node Built → List Key → Scope → Answer (Node Built)
build_order n [] s = ok n
build_order n (k ∷ ks) s = do
  xs ← each (key_built s) (k ∷ ks)
  ok (P.order n xs)

-- OFFSET AND LIMIT
-- an integer of 0 or more
unfoldable pub natural : Reason → ℕ → Value → Answer ℕ
natural r l null = refuse r l
natural r l (bool b) = refuse r l
natural r l (int (pos n)) = ok n
natural r l (int (negsuc n)) = refuse r l
natural r l (float b) = refuse r l
natural r l (text w) = refuse r l

unfoldable pub build_rows : Reason → (ℕ → Node Built → Node Built) → Node Built → Option Clause → Answer (Node Built)
build_rows r f n none = ok n
build_rows r f n (some c) = do
  v ← constant c.expr
  k ← natural r c.line v
  ok (f k n)

unfoldable pub build_remap : Node Built → Scope → Node Built
build_remap n s = elim (remap_hidden s) [ none ↦ n | some ts ↦ P.remap n ts ]

-- build_select
unfoldable pub build_select : Catalog → Select → Answer (Plan Built)
build_select c q = do
  f ← build_from_clause c q.from
  is' ← build_items q f.node
  w ← build_where f q.filter
  a ← build_groups w q.group (functions_of is' (later_of q))
  p ← build_projection a is' (later_of q)
  h ← build_having p.node q.having p.scope
  o ← build_order h q.order p.scope
  n ← build_rows invalid_offset (λ k m. P.offset m k) o q.offset
  m ← build_rows invalid_limit (λ k m. P.limit m k) n q.limit
  ok (P.select (build_remap m p.scope))
