-- Every position of a table's column in an accepted plan lies inside the table.
use Rattle.std.specs.Prelude.{ℕ, ◌<◌, length}
use native.Mathlib.Omega.{arith}
use Rattle.rules.specs.Refusals.{other_statement, invalid_offset, invalid_limit}
use Rattle.rules.specs.Lists.{Bytes}
use Rattle.rules.specs.Lines.{Word}
use Rattle.rules.specs.Schema.{Table, Catalog, named_by, must_get_table}
use Rattle.rules.specs.Ast.{Select, Delete, Insert, Update, Create, Statement}
use Rattle.rules.specs.Ast as Ast
use Rattle.rules.specs.Plan.{Plan}
use Rattle.rules.specs.Plan as P
use Rattle.rules.specs.Scope.{empty}
use Rattle.rules.specs.BuildExpression.{build, each, build_option, clause_expr}
use Rattle.rules.specs.BuildAggregate.{build_groups}
use Rattle.rules.specs.BuildFrom.{build_from_clause}
use Rattle.rules.specs.Items.{build_items}
use Rattle.rules.specs.BuildSelect.{build_where, later_of, functions_of, build_projection, build_having, build_order}
use Rattle.rules.specs.BuildSelect.{build_rows, build_select}
use Rattle.rules.specs.BuildStatement.{table_scope, build_delete, column_map, build_insert, set_built, build_update}
use Rattle.rules.specs.BuildStatement.{key_columns, primary_key, made_column, build_create, build_statement}
use Rattle.rules.specs.ReadCatalog.{read_catalog}
use Rattle.rules.specs.ReadStatement.{read_statement}
use Rattle.rules.specs.Entry.{plan_of}
use Rattle.claims.specs.Answers.{Ensures, then, past, refusing, All, Given, all-weaken, each-ensures, each-length}
use Rattle.claims.specs.Reading.Catalog.{LimitedTable, catalog-limited}
use Rattle.claims.specs.Building.Positions.{Mapped, columns-mapped, key_below}
use Rattle.claims.specs.Building.From.{found-has}
use Rattle.claims.specs.Widths.Statements.{table-wide, set_below}

-- a table's key is one of its columns
abbrev pub KeyInside : Table → Type 0
KeyInside t = t.key < length t.columns

-- the key of a plan's table, the columns of an insert's map and of an update's sets, and a created table's key
abbrev pub PositionsInside : {E : Type 0} → Plan E → Type 0
PositionsInside (P.select n) = Unit {0}
PositionsInside (P.delete t n) = KeyInside t
PositionsInside (P.insert t m n) = KeyInside t × Given (Mapped (length t.columns)) m
PositionsInside (P.update t n xs) = KeyInside t × All (λ x. x.0 < length t.columns) xs
PositionsInside (P.create n k cs) = k < length cs
PositionsInside (P.drop n y) = Unit {0}

module _ (c : Catalog) (keys : All KeyInside c) where
  found_inside : (l : ℕ) (n : Word) → Ensures (must_get_table c l n) KeyInside
  unfolding named_by
  found_inside l n = found-has KeyInside (λ m t h. h) c l n keys

  delete-inside : (d : Delete) → Ensures (build_delete c d) PositionsInside
  unfolding build_delete
  delete-inside d =
      then (must_get_table c d.line d.table) _ _ _ (found_inside d.line d.table) λ t k.
      past (build_option (table_scope t) (clause_expr d.filter)) _ _ λ w. k

  insert-inside : (d : Insert) → Ensures (build_insert c d) PositionsInside
  unfolding build_insert
  insert-inside d =
      then (must_get_table c d.line d.table) _ _ _ (found_inside d.line d.table) λ t k.
      then (column_map t.columns d.columns) _ _ _ (columns-mapped t.columns d.columns) λ m g.
      past (each (each (build empty)) d.rows) _ _ λ rs. (k, g)

  update-inside : (d : Update) → Ensures (build_update c d) PositionsInside
  unfolding build_update
  update-inside d =
      then (must_get_table c d.line d.table) _ _ _ (found_inside d.line d.table) λ t k.
      let s = table_scope t in
      past (build_option s (clause_expr d.filter)) _ _ λ w.
      then (each (set_built s t.columns) d.sets) _ _ _
      (each-ensures (set_built s t.columns) _ (λ x. set_below _ s t.columns x (table-wide t)) d.sets) λ xs h.
      (k, all-weaken _ _ (λ x g. g.0) xs h.0)

  create-inside : (d : Create) → Ensures (build_create d) PositionsInside
  unfolding build_create
  create-inside d =
      then (primary_key d.line (key_columns 0 d.columns)) _ _ _ (key_below d.line d.columns) λ k h.
      then (each made_column d.columns) _ _ _ (each-length made_column d.columns) λ cs e. omega arith

  select-inside : (q : Select) → Ensures (build_select c q) PositionsInside
  unfolding build_select
  select-inside q =
      past (build_from_clause c q.from) _ _ λ f.
      past (build_items q f.node) _ _ λ is'.
      past (build_where f q.filter) _ _ λ w.
      past (build_groups w q.group (functions_of is' (later_of q))) _ _ λ a.
      past (build_projection a is' (later_of q)) _ _ λ p.
      past (build_having p.node q.having p.scope) _ _ λ h.
      past (build_order h q.order p.scope) _ _ λ o.
      past (build_rows invalid_offset (λ k m. P.offset m k) o q.offset) _ _ λ n.
      past (build_rows invalid_limit (λ k m. P.limit m k) n q.limit) _ _ λ m. tt

  -- of a plan over a catalog of such tables
  statement-inside : (s : Statement) → Ensures (build_statement c s) PositionsInside
  unfolding build_statement
  statement-inside (Ast.select q) = select-inside q
  statement-inside (Ast.delete d) = delete-inside d
  statement-inside (Ast.insert d) = insert-inside d
  statement-inside (Ast.update d) = update-inside d
  statement-inside (Ast.create d) = create-inside d
  statement-inside (Ast.drop d) = tt
  statement-inside (Ast.other l) = refusing other_statement l _

-- every position in the plan of two texts
pub positions-inside : (c q : Bytes) → Ensures (plan_of c q) PositionsInside
unfolding plan_of
positions-inside c q =
    then (read_catalog c) _ _ _ (catalog-limited c) λ ts h.
    past (read_statement q) _ _ λ s. statement-inside ts (all-weaken LimitedTable KeyInside (λ t g. g.0) ts h.1) s
