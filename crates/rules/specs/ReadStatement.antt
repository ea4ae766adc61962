-- Statements from their text ("Statements: `select`, then ..").
use Rattle.std.specs.Prelude.{ℕ, zero, suc, Bool, true, false, not, List, [], ◌∷◌, ltb}
use Rattle.std.proofs.Math.Option.{Option, none, some}
use Rattle.rules.specs.Refusals.{statement, wrong_record, limit_passed, Answer, ok}
use Rattle.rules.specs.Limits.{most_entries, most_rows, most_table_columns, most_from_tables}
use Rattle.rules.specs.Lists.{Bytes, same, before, any, map_option}
use Rattle.rules.specs.Lines.{Word, bytes}
use Rattle.rules.specs.Ast.{Expr, Join, cross, inner, left, right, From, table, join, Item, Key, Select, Delete}
use Rattle.rules.specs.Ast.{Named, Insert, Set, Update, NewColumn, Create}
use Rattle.rules.specs.Ast.{Statement, select, delete, insert, update, create, drop, other, list_of}
use Rattle.rules.specs.Reader.{Place, Read, start, stop, give, ◌>>=◌, ◌>>◌, line_here, next, key, at}
use Rattle.rules.specs.Reader.{line_number, fit, record', one_of, name, word, count_field, no_field, one_field, both}
use Rattle.rules.specs.Reader.{two_fields, optional_name, name_alias, optional, record_within, many, turns}
use Rattle.rules.specs.Reader.{at_least_one, nothing_left, value_of}
use Rattle.rules.specs.ReadExpression.{times, expression, clause}
use Rattle.rules.specs.ReadColumn.{ColumnHead, new_column_fields}

-- FROM
unfoldable pub joins : List (Bytes × Join)
joins = (bytes "cross", cross) ∷ (bytes "inner", inner) ∷ (bytes "left", left) ∷ (bytes "right", right) ∷ []

-- whether a predicate follows
unfoldable pub predicates : List (Bytes × Bool)
predicates = (bytes "on", true) ∷ (bytes "bare", false) ∷ []

pub data FromHead : Type 0 where
  table_head : Word → Option Word → FromHead
  join_head : Join → Bool → FromHead

unfoldable pub from_heads : List (Bytes × (List Word → Option FromHead))
from_heads =
    (bytes "from", λ r. map_option (λ (q : Word × Option Word). table_head q.0 q.1) (name_alias r))
    ∷ (
      bytes "join",
      λ r. map_option (λ (q : Join × Bool). join_head q.0 q.1) (two_fields (word joins) (word predicates) r),
    )
    ∷ []

-- one more table in FROM
unfoldable pub tabled : Place → Place
tabled p = record {
  text = p.text;
  left = p.left;
  address = p.address;
  line = p.line;
  cells = p.cells;
  tables = suc p.tables;
}

-- the 17th `from` is 3, and no `join` before it
unfoldable pub from_here : Read FromHead
from_here p = elim (one_of from_heads (line_here p)) [
  | none ↦ stop wrong_record p
  | some (table_head n a) ↦ elim (ltb p.tables most_from_tables) [
    | true ↦ ok (table_head n a, next (tabled p))
    | false ↦ stop limit_passed p
  ]
  | some (join_head j o) ↦ ok (join_head j o, next p)
]

-- a FROM item by its first record, its sides read by f
unfoldable pub from_body : FromHead → ℕ → Read From → Read From
from_body (table_head n a) l f = give (table l n a)
from_body (join_head j o) l f = do
  a ← f
  b ← f
  e ← optional o expression
  give (join l j a b e)

-- every level takes a line, so the bytes left are enough levels
unfoldable pub from_tree : ℕ → Read From
from_tree zero = stop wrong_record
from_tree (suc fuel) = do
  l ← line_number
  h ← from_here
  from_body h l (from_tree fuel)

unfoldable pub froms : ℕ → Read (List From)
froms zero = give []
froms (suc fuel) = λ p. elim (any (same (key p)) (bytes "from" ∷ bytes "join" ∷ [])) [
  | false ↦ ok ([], p)
  | true ↦ (do
    f ← turns from_tree
    fs ← froms fuel
    give (f ∷ fs)) p
]

-- SELECT
unfoldable pub item_body : ℕ → Option Word → Read Item
item_body l a = do
  e ← expression
  give (record { line = l; expr = e; alias = a })

unfoldable pub group_body : ℕ → Unit {0} → Read Expr
group_body l u = expression

unfoldable pub directions : List (Bytes × Bool)
directions = (bytes "asc", false) ∷ (bytes "desc", true) ∷ []

unfoldable pub order_body : ℕ → Bool → Read Key
order_body l d = do
  e ← expression
  give (record { expr = e; descending = d })

unfoldable pub select_body : Read Select
select_body = do
  is' ← at_least_one (bytes "item") (turns λ k. many (bytes "item") optional_name most_entries item_body k 0)
  fs ← turns froms
  w ← clause (bytes "where")
  gs ← turns λ k. many (bytes "group") no_field most_entries group_body k 0
  h ← clause (bytes "having")
  os ← turns λ k. many (bytes "order") (one_field (word directions)) most_entries order_body k 0
  o ← clause (bytes "offset")
  l ← clause (bytes "limit")
  give (record { items = is'; from = fs; filter = w; group = gs; having = h; order = os; offset = o; limit = l })

-- DELETE
unfoldable pub delete_body : ℕ → Word → Read Delete
delete_body l n = do
  w ← clause (bytes "where")
  give (record { line = l; table = n; filter = w })

-- INSERT
unfoldable pub name_body : ℕ → Word → Read Named
name_body l n = give (record { line = l; name = n })

unfoldable pub row_body : ℕ → ℕ → Read (List Expr)
row_body l n = do
  es ← times n expression
  give (list_of es)

unfoldable pub columns_here : Read (Option (List Named))
columns_here p = elim (at (bytes "columns") p) [
  | false ↦ ok (none, p)
  | true ↦ (do
    record' (bytes "columns") no_field
    ns ← turns λ k. many (bytes "name") (one_field name) most_entries name_body k 0
    give (some ns)) p
]

unfoldable pub insert_body : ℕ → Word → Read Insert
insert_body l n = do
  cs ← columns_here
  rs ← at_least_one (bytes "row") (turns λ k. many (bytes "row") (one_field count_field) most_rows row_body k 0)
  give (record { line = l; table = n; columns = cs; rows = rs })

-- UPDATE
unfoldable pub defaults : List (Bytes × Unit {0})
defaults = (bytes "default", tt) ∷ []

-- a name, and whether it is set to its default
unfoldable pub set_fields : List Word → Option (Word × Bool)
set_fields [] = none
set_fields (w ∷ []) = map_option (λ (n : Word). (n, false)) (name w)
set_fields (w ∷ (v ∷ [])) = map_option (λ (r : Word × Unit {0}). (r.0, true)) (both (name w) (word defaults v))
set_fields (w ∷ (v ∷ (u ∷ r))) = none

-- names strictly rising
unfoldable pub rises : Option Bytes → Word → Bool
rises none w = true
rises (some b) w = before b w.bytes

unfoldable pub rising_set : Option Bytes → List Word → Option (Word × Bool)
rising_set b r = elim (set_fields r) [ none ↦ none | some h ↦ elim (rises b h.0) [ true ↦ some h | false ↦ none ] ]

-- the sets that stand here, behind n of them and the last name
unfoldable pub sets : ℕ → ℕ → Option Bytes → Read (List Set)
sets zero n b = give []
sets (suc fuel) n b = λ p. elim (at (bytes "set") p) [
  | false ↦ ok ([], p)
  | true ↦ (do
    h ← record_within (rising_set b) n most_entries
    e ← optional (not h.1.1) expression
    xs ← sets fuel (suc n) (some h.1.0.bytes)
    give (record { line = h.0; name = h.1.0; value = e } ∷ xs)) p
]

unfoldable pub update_body : ℕ → Word → Read Update
update_body l n = do
  xs ← at_least_one (bytes "set") (turns λ k. sets k 0 none)
  w ← clause (bytes "where")
  give (record { line = l; table = n; sets = xs; filter = w })

-- CREATE
unfoldable pub new_column : ℕ → ColumnHead → Option Expr → NewColumn
new_column l c d = record {
  line = l;
  name = c.name;
  type = c.type;
  key = c.key;
  nullable = c.nullable;
  unique = c.unique;
  index = c.index;
  default = d;
  reference = c.reference;
}

unfoldable pub column_body : ℕ → ColumnHead → Read NewColumn
column_body l c = do
  d ← optional c.default expression
  give (new_column l c d)

unfoldable pub create_body : ℕ → Word → Read Create
create_body l n = do
  cs ← turns λ k. many (bytes "column") new_column_fields most_table_columns column_body k 0
  give (record { line = l; name = n; columns = cs })

-- STATEMENTS
unfoldable pub answers : List (Bytes × Bool)
answers = (bytes "yes", true) ∷ (bytes "no", false) ∷ []

pub data StatementHead : Type 0 where
  select_head other_head : StatementHead
  delete_head insert_head update_head create_head : Word → StatementHead
  drop_head : Word → Bool → StatementHead

unfoldable pub statement_heads : List (Bytes × (List Word → Option StatementHead))
statement_heads =
    (bytes "select", λ r. map_option (λ u. select_head) (no_field r))
    ∷ (bytes "delete", λ r. map_option delete_head (one_field name r))
    ∷ (bytes "insert", λ r. map_option insert_head (one_field name r))
    ∷ (bytes "update", λ r. map_option update_head (one_field name r))
    ∷ (bytes "create", λ r. map_option create_head (one_field name r))
    ∷ (bytes "drop", λ r. map_option (λ (q : Word × Bool). drop_head q.0 q.1) (two_fields name (word answers) r))
    ∷ (bytes "other", λ r. map_option (λ u. other_head) (no_field r))
    ∷ []

unfoldable pub statement_body : StatementHead → ℕ → Read Statement
statement_body select_head l = do
  s ← select_body
  give (select s)
statement_body (delete_head n) l = do
  d ← delete_body l n
  give (delete d)
statement_body (insert_head n) l = do
  d ← insert_body l n
  give (insert d)
statement_body (update_head n) l = do
  d ← update_body l n
  give (update d)
statement_body (create_head n) l = do
  d ← create_body l n
  give (create d)
statement_body (drop_head n y) l = give (drop (record { name = n; if_exists = y }))
statement_body other_head l = give (other l)

unfoldable pub statement_here : Read StatementHead
statement_here p = fit (one_of statement_heads (line_here p)) p

-- a statement, its `end`, and nothing behind it
unfoldable pub statement_records : Read Statement
statement_records = do
  l ← line_number
  h ← statement_here
  s ← statement_body h l
  record' (bytes "end") no_field
  nothing_left
  give s

unfoldable pub read_statement : Bytes → Answer Statement
read_statement t = value_of (statement_records (start statement t))
