-- What is known between the clauses of a SELECT: how far the rules have built it, what stands of its plan, and what the
-- numbers of its parts stand for.
use Rattle.std.specs.Prelude.{ℕ, ◌*◌, ◌≤◌, ◌≡◌, List, map, length, Option}
use Rattle.std.proofs.Common.{arith, sym, ap}
use Rattle.rules.specs.Refusals.{ok, invalid_offset, invalid_limit}
use Rattle.rules.specs.Limits.{most_bytes}
use Rattle.rules.specs.Lists.{Bytes}
use Rattle.rules.specs.Schema.{Catalog}
use Rattle.rules.specs.Ast.{Select}
use Rattle.rules.specs.Plan.{Built, Node}
use Rattle.rules.specs.Plan as P
use Rattle.rules.specs.Scope as rules
use Rattle.rules.specs.Stage.{Stage}
use Rattle.rules.specs.Items.{build_items}
use Rattle.rules.specs.BuildSelect.{build_rows}
use Rattle.claims.specs.Answers.{All}
use Rattle.claims.specs.Reading.Has.{SelectHas}
use Rattle.claims.specs.Within.{ExprWithin}
use Rattle.claims.specs.Words.Within.{StatementName}
use Rattle.claims.specs.Refused.Qualified.{IsQualified}
use Rattle.ast.specs.Table.{row_size, statement_rows, table_size, tree_at}
use Rattle.numbers.specs.Kept.{Kept}
use Rattle.scope.specs.Labels.{columns_of}
use Rattle.scope.specs.Scopes.{scope_of, Valid, Plain, labels_of, table_numbers}
use Rattle.scope.specs.declared.Scope.{Scope}
use Rattle.sections.specs.Layout.{section_at}
use Rattle.sections.specs.Access.{item_kind, where_kind, group_kind, having_kind, order_kind, offset_kind, limit_kind}
use Rattle.statement.specs.Layout.{select_of, map_entries, to_item, to_group, to_key, to_clause}
use Rattle.statement.specs.Access.{select_at}
use Rattle.statement.specs.Stays.{SectionsStay}
use Rattle.statement.specs.EntryAccess.{clause_at, clause_of, clause-is}
use Rattle.statement.specs.declared.access.Clause.{Clause}
use Rattle.plan.specs.declared.nodes.Nodes.{Nodes}
use Rattle.plan.specs.declared.steps.Step.{Step}
use Rattle.build_projection.specs.Items.{item_of}
use Rattle.build_projection.specs.declared.items.Item as listed
use Rattle.build_select.specs.History.{AfterFrom, AfterWhere, AfterProjection, AfterOrder}
use Rattle.build_select.specs.Held.{Held}

-- the clauses of the SELECT d, by the rows of the table cells
pub record Read (c q : Bytes) (cells parts : List ℕ) (d : Select) : Type 0 where
  pub table : length cells ≡ table_size
  pub items : d.items ≡ map_entries to_item (section_at c q cells parts item_kind)
  pub filter : d.filter ≡ to_clause (section_at c q cells parts where_kind)
  pub group : d.group ≡ map_entries to_group (section_at c q cells parts group_kind)
  pub having : d.having ≡ to_clause (section_at c q cells parts having_kind)
  pub order : d.order ≡ map_entries to_key (section_at c q cells parts order_kind)
  pub offset : d.offset ≡ to_clause (section_at c q cells parts offset_kind)
  pub limit : d.limit ≡ to_clause (section_at c q cells parts limit_kind)

-- the clause of a kind, by its numbers
pub clause-read : (c q : Bytes) (cells parts : List ℕ) (kind : ℕ) {w : Option Clause} → length cells ≡ table_size
    → w ≡ clause_at parts kind → to_clause (section_at c q cells parts kind) ≡ clause_of c q cells w
clause-read c q cells parts kind {w} l e = clause-is parts kind c q cells (omega (arith, l)) w e

-- the SELECT as it was read, by a table in which rows behind the statement's were written
pub read_kept : {c q : Bytes} {cells parts : List ℕ} (froms : List ℕ) {x : List ℕ} → SectionsStay q cells parts
    → Kept 0 (row_size * statement_rows) cells x → length x ≡ table_size → Read c q x parts (select_at c q cells froms parts)
unfolding select_at select_of
read_kept {c} froms {x} s k l = record {
  table = l;
  items = ap (map_entries to_item) (sym (s.same x k c item_kind (omega arith)));
  filter = ap to_clause (sym (s.same x k c where_kind (omega arith)));
  group = ap (map_entries to_group) (sym (s.same x k c group_kind (omega arith)));
  having = ap to_clause (sym (s.same x k c having_kind (omega arith)));
  order = ap (map_entries to_key) (sym (s.same x k c order_kind (omega arith)));
  offset = ap to_clause (sym (s.same x k c offset_kind (omega arith)));
  limit = ap to_clause (sym (s.same x k c limit_kind (omega arith)));
}

-- the SELECT d was read from the text q
pub record SelectWithin (c q : Bytes) (d : Select) : Type 0 where
  pub short : length q ≤ most_bytes
  pub parts : SelectHas (ExprWithin c q) (StatementName c q) d

-- the rules' scope s, by its numbers
pub record Scoped (c q : Bytes) (cells : List ℕ) (s : rules.Scope) (x : Scope) : Type 0 where
  pub valid : Valid x
  pub hidden : x.hidden ≤ x.width
  pub is : s ≡ scope_of (tree_at c q cells) c q x

-- BEHIND EACH CLAUSE
-- FROM, in whose scope nothing is matched and every column has a table; the SELECT is as it was read
pub record FromState (c q : Bytes) (cells parts : List ℕ) (scope : Scope) (i : Step) (area : List ℕ)
    (nodes : Nodes) : Type 0 where
  pub catalog : Catalog
  pub froms : List ℕ
  pub stage : Stage
  pub past : AfterFrom catalog (select_at c q cells froms parts) stage
  pub scoped : Scoped c q cells stage.scope scope
  pub plain : Plain scope
  pub labels : P.labels stage.node ≡ columns_of c q (table_numbers scope) (labels_of scope)
  pub qualified : All IsQualified (columns_of c q (table_numbers scope) (labels_of scope))
  pub within : SelectWithin c q (select_at c q cells froms parts)
  pub stay : SectionsStay q cells parts
  pub held : Held (select_at c q cells froms parts) stage.node i area nodes

-- the items, as they are listed
pub record ItemsState (c q : Bytes) (cells parts : List ℕ) (items : List listed.Item) (scope : Scope) (i : Step) (area : List ℕ)
    (nodes : Nodes)
    : Type 0 where
  pub catalog : Catalog
  pub select : Select
  pub stage : Stage
  pub past : AfterFrom catalog select stage
  pub is : build_items select stage.node ≡ ok (map (item_of c q cells parts) items)
  pub read : Read c q cells parts select
  pub scoped : Scoped c q cells stage.scope scope
  pub plain : Plain scope
  pub within : SelectWithin c q select
  pub held : Held select stage.node i area nodes

-- WHERE: what is listed stands for the SELECT's items
pub record WhereState (c q : Bytes) (cells parts : List ℕ) (items : List listed.Item) (scope : Scope) (i : Step) (area : List ℕ)
    (nodes : Nodes)
    : Type 0 where
  pub catalog : Catalog
  pub select : Select
  pub stage : Stage
  pub past : AfterWhere catalog select (map (item_of c q cells parts) items) stage
  pub read : Read c q cells parts select
  pub scoped : Scoped c q cells stage.scope scope
  pub plain : Plain scope
  pub within : SelectWithin c q select
  pub held : Held select stage.node i area nodes

-- the projection
pub record ProjectionState (c q : Bytes) (cells parts : List ℕ) (scope : Scope) (i : Step) (area : List ℕ)
    (nodes : Nodes)
    : Type 0 where
  pub catalog : Catalog
  pub select : Select
  pub stage : Stage
  pub past : AfterProjection catalog select stage
  pub read : Read c q cells parts select
  pub scoped : Scoped c q cells stage.scope scope
  pub held : Held select stage.node i area nodes

-- ORDER
pub record OrderState (c q : Bytes) (cells parts : List ℕ) (scope : Scope) (i : Step) (area : List ℕ)
    (nodes : Nodes) : Type 0 where
  pub catalog : Catalog
  pub select : Select
  pub stage : Stage
  pub node : Node Built
  pub past : AfterOrder catalog select stage node
  pub read : Read c q cells parts select
  pub scoped : Scoped c q cells stage.scope scope
  pub held : Held select node i area nodes

-- OFFSET
pub record OffsetState (c q : Bytes) (cells parts : List ℕ) (scope : Scope) (i : Step) (area : List ℕ)
    (nodes : Nodes) : Type 0 where
  pub catalog : Catalog
  pub select : Select
  pub stage : Stage
  pub ordered : Node Built
  pub node : Node Built
  pub past : AfterOrder catalog select stage ordered
  pub is : build_rows invalid_offset (λ i t. P.offset t i) ordered select.offset ≡ ok node
  pub read : Read c q cells parts select
  pub scoped : Scoped c q cells stage.scope scope
  pub held : Held select node i area nodes

-- LIMIT
pub record LimitState (scope : Scope) (i : Step) (area : List ℕ) (nodes : Nodes) : Type 0 where
  pub texts : Bytes × Bytes
  pub cells : List ℕ
  pub catalog : Catalog
  pub select : Select
  pub stage : Stage
  pub ordered : Node Built
  pub before : Node Built
  pub node : Node Built
  pub past : AfterOrder catalog select stage ordered
  pub offset : build_rows invalid_offset (λ i t. P.offset t i) ordered select.offset ≡ ok before
  pub is : build_rows invalid_limit (λ i t. P.limit t i) before select.limit ≡ ok node
  pub scoped : Scoped texts.0 texts.1 cells stage.scope scope
  pub held : Held select node i area nodes
