-- DELETE, INSERT, UPDATE, CREATE and DROP (planner.rs, build and the functions it calls).
use Rattle.std.specs.Prelude.{ℕ, suc, Bool, true, false, ◌&&◌, ◌||◌, not, List, [], ◌∷◌, ◌++◌, eqb}
use Rattle.std.proofs.Math.Option.{Option, none, some}
use Rattle.rules.specs.Refusals.{Answer, ok, ◌>>=◌, ◌>>◌, refuse, refuse_if, other_statement, no_primary_key}
use Rattle.rules.specs.Refusals.{multiple_primary_keys, unknown_insert_column, repeated_insert_column, no_default}
use Rattle.rules.specs.Lists.{any, is_some, or_else}
use Rattle.rules.specs.Lines.{Word}
use Rattle.rules.specs.Schema.{Value, null, Column, Table, Catalog, must_get_table, column_at, default_at}
use Rattle.rules.specs.Ast.{Expr, Delete, Named, Insert, Update, NewColumn, Create, Statement}
use Rattle.rules.specs.Ast as Ast
use Rattle.rules.specs.Plan.{Built, TablePosition, cindex, ValuePosition, vindex, Mapping, Made, Plan}
use Rattle.rules.specs.Plan as P
use Rattle.rules.specs.Scope.{Scope, empty, lookup, from_table}
use Rattle.rules.specs.BuildExpression.{found, build, each, build_option, clause_expr, constant}
use Rattle.rules.specs.BuildSelect.{build_select}

-- the columns of a table that DELETE or UPDATE names
unfoldable pub table_scope : Table → Scope
table_scope t = from_table t.name t

-- DELETE (build_delete)
unfoldable pub build_delete : Catalog → Delete → Answer (Plan Built)
build_delete c d = do
  t ← must_get_table c d.line d.table
  w ← build_option (table_scope t) (clause_expr d.filter)
  ok (P.delete t (P.scan t none w))

-- INSERT (build_insert)
unfoldable pub same_position : TablePosition → TablePosition → Bool
same_position (cindex i) (cindex j) = eqb i j

-- whether a column is in the map
unfoldable pub mapped : TablePosition → List Mapping → Bool
mapped c m = any (λ (e : Mapping). same_position e.column c) m

unfoldable pub table_position : List Column → Word → Option TablePosition
table_position cs n = elim (column_at 0 cs n.bytes) [ some i ↦ some (cindex i) | none ↦ none ]

-- 22 no such column, 23 one given before
unfoldable pub map_column : ℕ → Option TablePosition → ValuePosition → List Mapping → Answer (List Mapping)
map_column l none v m = refuse unknown_insert_column l
map_column l (some c) v m = do
  refuse_if (mapped c m) repeated_insert_column l
  ok (m ++ (record { column = c; value = v } ∷ []))

-- the column map behind v names
unfoldable pub map_from : List Column → List Named → ℕ → List Mapping → Answer (List Mapping)
map_from cs [] v m = ok m
map_from cs (n ∷ ns) v m = do
  m₁ ← map_column n.line (table_position cs n.name) (vindex v) m
  map_from cs ns (suc v) m₁

-- a map of no names is not no map
unfoldable pub column_map : List Column → Option (List Named) → Answer (Option (List Mapping))
column_map cs none = ok none
column_map cs (some ns) = do
  m ← map_from cs ns 0 []
  ok (some m)

unfoldable pub build_insert : Catalog → Insert → Answer (Plan Built)
build_insert c d = do
  t ← must_get_table c d.line d.table
  m ← column_map t.columns d.columns
  rs ← each (each (build empty)) d.rows
  ok (P.insert t m (P.values rs))

-- UPDATE (build_update)
unfoldable pub or_default : ℕ → Option Value → Answer Built
or_default l none = refuse no_default l
or_default l (some v) = ok (P.constant v)

unfoldable pub set_value : Scope → List Column → ℕ → ℕ → Option Expr → Answer Built
set_value s cs l i (some e) = build s e
set_value s cs l i none = or_default l (default_at cs i)

unfoldable pub set_built : Scope → List Column → Ast.Set → Answer (ℕ × Built)
set_built s cs x = do
  i ← found x.line (lookup s none x.name)
  e ← set_value s cs x.line i x.value
  ok (i, e)

unfoldable pub build_update : Catalog → Update → Answer (Plan Built)
build_update c d = do
  t ← must_get_table c d.line d.table
  w ← build_option (table_scope t) (clause_expr d.filter)
  xs ← each (set_built (table_scope t) t.columns) d.sets
  ok (P.update t (P.scan t none w) xs)

-- CREATE (build_create_table)
-- a column given as primary key: its position and the line of its record
pub record KeyColumn : Type 0 where
  pub position : ℕ
  pub line : ℕ

-- those of the columns, from position i
unfoldable pub key_columns : ℕ → List NewColumn → List KeyColumn
key_columns i [] = []
key_columns i (c ∷ cs) = elim c.key [
  | true ↦ record { position = i; line = c.line } ∷ key_columns (suc i) cs
  | false ↦ key_columns (suc i) cs
]

-- the position of the only one
unfoldable pub primary_key : ℕ → List KeyColumn → Answer ℕ
primary_key l [] = refuse no_primary_key l
primary_key l (k ∷ []) = ok k.position
primary_key l (k ∷ (m ∷ r)) = refuse multiple_primary_keys m.line

-- a column that may be null has a null default
unfoldable pub null_default : Bool → Option Value
null_default true = some null
null_default false = none

unfoldable pub default_value : Bool → Option Expr → Answer (Option Value)
default_value n none = ok (null_default n)
default_value n (some e) = do
  v ← constant e
  ok (some v)

unfoldable pub made_column : NewColumn → Answer Made
made_column c = do
  let n = or_else c.nullable (not c.key)
  d ← default_value n c.default
  ok (record {
    name = c.name;
    type = c.type;
    nullable = n;
    default = d;
    unique = c.unique || c.key;
    index = (c.index || c.unique || is_some c.reference) && not c.key;
    reference = c.reference;
  })

unfoldable pub build_create : Create → Answer (Plan Built)
build_create d = do
  k ← primary_key d.line (key_columns 0 d.columns)
  cs ← each made_column d.columns
  ok (P.create d.name k cs)

-- Planner::build
unfoldable pub build_statement : Catalog → Statement → Answer (Plan Built)
build_statement c (Ast.select q) = build_select c q
build_statement c (Ast.delete d) = build_delete c d
build_statement c (Ast.insert d) = build_insert c d
build_statement c (Ast.update d) = build_update c d
build_statement c (Ast.create d) = build_create d
build_statement c (Ast.drop d) = ok (P.drop d.name d.if_exists)
build_statement c (Ast.other l) = refuse other_statement l
