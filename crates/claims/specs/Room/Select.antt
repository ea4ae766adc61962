-- A SELECT's nodes take at most 5,782 numbers.
use Rattle.std.specs.Prelude.{ℕ, ◌+◌, ◌-◌, ◌≤◌, ◌≡◌, refl, List, [], ◌∷◌, ◌++◌, length}
use Rattle.std.proofs.Common.{arith, ap, length-append}
use Rattle.std.proofs.Math.Option.{Option, none, some}
use Rattle.std.proofs.lemmas.List.{length-map}
use Rattle.rules.specs.Refusals.{Reason, refuse_if, at_most, having_without_aggregate, invalid_offset, invalid_limit}
use Rattle.rules.specs.Limits.{most_columns, most_entries, most_from_tables}
use Rattle.rules.specs.Lists.{is_empty}
use Rattle.rules.specs.Schema.{Catalog}
use Rattle.rules.specs.Ast.{Expr, line_of, From, Item, Key, Clause, Select}
use Rattle.rules.specs.Sizes.{total}
use Rattle.rules.specs.Plan.{Built, Node, column_count}
use Rattle.rules.specs.Plan as P
use Rattle.rules.specs.Scope.{Scope, width}
use Rattle.rules.specs.BuildExpression.{build, each, build_option, clause_expr, constant}
use Rattle.rules.specs.Stage.{Stage}
use Rattle.rules.specs.BuildAggregate.{retain_groups, retain_functions, build_function, build_aggregate, aggregated}
use Rattle.rules.specs.BuildAggregate.{build_groups}
use Rattle.rules.specs.BuildFrom.{build_from_clause}
use Rattle.rules.specs.Items.{is_lone, build_items}
use Rattle.rules.specs.Hidden.{HiddenColumn, projected}
use Rattle.rules.specs.BuildSelect.{filtered, build_where, item_built, key_built, project_items, build_projection}
use Rattle.rules.specs.BuildSelect.{build_having, build_order}
use Rattle.rules.specs.BuildSelect.{build_rows, build_remap, natural, build_select}
use Rattle.claims.specs.Answers.{Ensures, then, both, weaken, past, each-length}
use Rattle.claims.specs.Cases.{tested}
use Rattle.claims.specs.Count.Within.{at-most}
use Rattle.claims.specs.Count.Stars.{expanded-items}
use Rattle.claims.specs.Reading.Limits.{from_tables}
use Rattle.claims.specs.Room.Nodes.{most_node_numbers, filter_numbers, most_group_numbers}
use Rattle.claims.specs.Room.Nodes.{most_item_numbers, most_key_numbers, row_count_numbers, most_remap_numbers}
use Rattle.claims.specs.Room.Nodes.{node_room, plan_node_room, own_room}
use Rattle.claims.specs.Room.From.{FromFits, from-fits, from_clause-room}
use Rattle.claims.specs.Widths.Bounded.{BoundedStage, stage-wide}
use Rattle.claims.specs.Widths.Scopes.{wide-width}
use Rattle.claims.specs.Widths.FromStages.{from-stage, where-stage, group-stage}
use Rattle.claims.specs.Widths.SelectStages.{projection-stage, targets-length, remapped}

-- STAGES: each adds at most so many numbers
filter-room : (n : Node Built) (x : Option Built) → node_room (filtered n x) ≤ node_room n + filter_numbers
unfolding filtered node_room
filter-room n none = omega arith
filter-room n (some x) = omega arith

where-room : (f : Stage) (c : Option Clause)
    → Ensures (build_where f c) (λ w. (node_room w.node ≤ node_room f.node + filter_numbers) × (w.scope ≡ f.scope))
unfolding build_where
where-room f c = past (build_option f.scope (clause_expr c)) _ _ λ x. (filter-room f.node x, refl)

aggregate-room : (n : Node Built) (gs fs : List Expr) (s : Scope)
    → Ensures (build_aggregate n gs fs s)
    (λ r. (node_room r.node ≤ node_room n + most_group_numbers) × (column_count r.node ≤ most_columns))
unfolding build_aggregate node_room column_count
aggregate-room n gs fs s =
    let g = retain_groups s gs in
    let f = retain_functions s gs fs in
    then (each (build s) g.exprs) _ _ _ (each-length (build s) g.exprs) λ xs hx.
    then (each (build_function s) f.exprs) _ _ _ (each-length (build_function s) f.exprs) λ ys hy.
    then (at_most most_columns line_of (g.exprs ++ f.exprs)) _ _ _
    (at-most most_columns line_of (g.exprs ++ f.exprs)) λ u hu.
    let e = length-append g.exprs f.exprs in
    (omega (arith, hx, hy, hu, e), omega (arith, hx, hy, hu, e))

groups-room : (f : Stage) (gs fs : List Expr) → column_count f.node ≤ most_columns
    → Ensures (build_groups f gs fs)
    (λ r. (node_room r.node ≤ node_room f.node + most_group_numbers) × (column_count r.node ≤ most_columns))
unfolding build_groups
groups-room f gs fs w = tested (aggregated gs fs) _ _ _ (aggregate-room f.node gs fs f.scope) (omega arith, w)

pub having-room : (n : Node Built) (c : Option Clause) (s : Scope)
    → Ensures (build_having n c s) (λ m. node_room m ≤ node_room n + filter_numbers)
unfolding build_having node_room
having-room n none s = omega arith
having-room n (some c) s =
    past (refuse_if (is_empty s.aggregates) having_without_aggregate c.line) _ _ λ u.
    past (build s c.expr) _ _ λ x. omega arith

pub order-room : (n : Node Built) (ks : List Key) (s : Scope) → length ks ≤ most_entries
    → Ensures (build_order n ks s) (λ m. node_room m ≤ node_room n + most_key_numbers)
unfolding build_order
order-room n [] s h = omega arith
order-room n (k ∷ ks) s h =
    then (each (key_built s) (k ∷ ks)) _ _ _
    (each-length (key_built s) (k ∷ ks)) λ xs hx. unfold node_room in (omega (arith, hx))

pub rows-room : (r : Reason) (f : ℕ → Node Built → Node Built)
    → ((k : ℕ) (n : Node Built) → node_room (f k n) ≤ node_room n + row_count_numbers)
    → (n : Node Built) (c : Option Clause) → Ensures (build_rows r f n c) (λ m. node_room m ≤ node_room n + row_count_numbers)
unfolding build_rows
rows-room r f k n none = omega arith
rows-room r f k n (some c) =
    past (constant c.expr) _ _ λ v.
    past (natural r c.line v) _ _ λ m. k m n

pub offset-room : (k : ℕ) (n : Node Built) → node_room (P.offset n k) ≤ node_room n + row_count_numbers
unfolding node_room
offset-room k n = omega arith

pub limit-room : (k : ℕ) (n : Node Built) → node_room (P.limit n k) ≤ node_room n + row_count_numbers
unfolding node_room
limit-room k n = omega arith

remap-room : (n : Node Built) (s : Scope) → width s ≤ most_columns → node_room (build_remap n s) ≤ node_room n + most_remap_numbers
remap-room n s h =
    remapped (λ m. node_room m ≤ node_room n + most_remap_numbers) n s (omega arith)
    (unfold node_room in (omega (arith, targets-length s.hidden (width s) 0 0)))

-- items and hidden columns are at most 256
items-room : (f : Stage) (is' : List Item) (later : List Expr) → length is' ≤ most_columns
    → Ensures (project_items f is' later)
    (λ r. (node_room r.node ≤ node_room f.node + most_item_numbers) × (column_count r.node ≤ most_columns))
unfolding project_items node_room column_count
items-room f is' later h =
    let cs = (projected f.scope is' later).columns in
    let line : HiddenColumn → ℕ = λ c. c.line in
    then (each (item_built f.scope) is') _ _ _ (each-length (item_built f.scope) is') λ xs hx.
    then (at_most (most_columns - length is') line cs) _ _ _ (at-most (most_columns - length is') line cs) λ u hu.
    simp (length-append, length-map) (omega (arith, hx, hu), omega (arith, hx, hu))

projection-room : (f : Stage) (is' : List Item) (later : List Expr) → column_count f.node ≤ most_columns
    → length is' ≤ most_columns
    → Ensures (build_projection f is' later)
    (λ r. (node_room r.node ≤ node_room f.node + most_item_numbers) × (column_count r.node ≤ most_columns))
unfolding build_projection
projection-room f is' later w h = tested (is_lone is') _ _ _ (omega arith, w) (items-room f is' later h)

-- a stage's scope is as wide as its node
stage-width : (f : Stage) → BoundedStage f → width f.scope ≡ column_count f.node
stage-width f h = wide-width (column_count f.node) f.scope (stage-wide f h)

-- A STAGE whose nodes take at most n numbers, of at most 256 columns
pub record RoomAt (n : ℕ) (f : Stage) : Type 0 where
  pub nodes : node_room f.node ≤ n
  pub narrow : column_count f.node ≤ most_columns
  pub bounded : BoundedStage f

pub from_at_lem : (c : Catalog) (fs : List From) {n : ℕ} → FromFits fs n → Ensures (build_from_clause c fs) (RoomAt n)
from_at_lem c fs fits = weaken (build_from_clause c fs) _ _
    (λ f h. record {
      nodes = h.0.0;
      narrow = omega (arith, stage-width f h.1, h.0.1);
      bounded = h.1;
    }) (both (build_from_clause c fs) _ _ (from_clause-room c fs fits) (from-stage c fs))

module _ {n : ℕ} (f : Stage) (h : RoomAt n f) where
  pub where-at : (c : Option Clause) → Ensures (build_where f c) (RoomAt (n + filter_numbers))
  where-at c = weaken (build_where f c) _ _
      (λ w g. record {
        nodes = omega (arith, g.0.0, h.nodes);
        narrow = omega (arith, stage-width w g.1, ap width g.0.1, stage-width f h.bounded, h.narrow);
        bounded = g.1;
      }) (both (build_where f c) _ _ (where-room f c) (where-stage f c h.bounded))

  pub groups-at : (gs fs : List Expr) → Ensures (build_groups f gs fs) (RoomAt (n + most_group_numbers))
  groups-at gs fs = weaken (build_groups f gs fs) _ _
      (λ a g. record { nodes = omega (arith, g.0.0, h.nodes); narrow = g.0.1; bounded = g.1 })
      (both (build_groups f gs fs) _ _ (groups-room f gs fs h.narrow) (group-stage f gs fs h.bounded))

  pub projection-at : (is' : List Item) (later : List Expr) → length is' ≤ most_columns
      → Ensures (build_projection f is' later) (RoomAt (n + most_item_numbers))
  projection-at is' later l = weaken (build_projection f is' later) _ _
      (λ p g. record { nodes = omega (arith, g.0.0, h.nodes); narrow = g.0.1; bounded = g.1 })
      (both (build_projection f is' later) _ _ (projection-room f is' later h.narrow l)
      (projection-stage f is' later h.bounded))

  -- its scope is as narrow, and so is the remap that drops what is hidden
  pub width-at : width f.scope ≤ most_columns
  width-at = omega (arith, stage-width f h.bounded, h.narrow)

  pub remap-at : (m : Node Built) → node_room (build_remap m f.scope) ≤ node_room m + most_remap_numbers
  remap-at m = remap-room m f.scope width-at

-- all of them
pub select-room : (c : Catalog) (q : Select) → total from_tables q.from ≤ most_from_tables
    → length q.order ≤ most_entries
    → Ensures (build_select c q) (λ p. plan_node_room p + own_room p ≤ most_node_numbers)
unfolding build_select plan_node_room own_room
select-room c q tables keys =
    then (build_from_clause c q.from) _ _ _ (from_at_lem c q.from (from-fits q.from tables)) λ f hf.
    then (build_items q f.node) _ _ _ (expanded-items q f.node) λ is' hi.
    then (build_where f q.filter) _ _ _ (where-at f hf q.filter) λ w hw.
    then (build_groups w q.group _) _ _ _ (groups-at w hw q.group _) λ a ha.
    then (build_projection a is' _) _ _ _ (projection-at a ha is' _ hi.1) λ p hp.
    let s = p.scope in
    then (build_having p.node q.having s) _ _ _ (having-room p.node q.having s) λ h hh.
    then (build_order h q.order s) _ _ _ (order-room h q.order s keys) λ o ho.
    then (build_rows invalid_offset (λ k m. P.offset m k) o q.offset) _ _ _
    (rows-room invalid_offset _ offset-room o q.offset) λ n hn.
    then (build_rows invalid_limit (λ k m. P.limit m k) n q.limit) _ _ _
    (rows-room invalid_limit _ limit-room n q.limit) λ m hm.
    omega (arith, remap-at p hp m, hp.nodes)
