-- The whole area read back (docs/PLAN.md): the header, the cells, the nodes, the statement's own numbers, and zeros.
use Rattle.std.specs.Prelude.{ℕ, zero, suc, List, [], ◌∷◌, ◌++◌}
use Rattle.std.proofs.Math.Option.{Option, none, some}
use Rattle.rules.specs.Lists.{Bytes, is_empty}
use Rattle.rules.specs.Schema.{Value, Datatype, boolean, integer, floating, string, Table, Catalog}
use Rattle.rules.specs.Plan.{cindex, vindex, Mapping, Made, Plan, map_second}
use Rattle.rules.specs.Plan as P
use Rattle.rules.specs.Cells.{Cell}
use Rattle.rules.specs.Nodes.{NodeRecord}
use Rattle.claims.specs.Area.Readings.{Reading, give, ◌>>=◌, ◌>>◌, giving, found, demand, number, exactly}
use Rattle.claims.specs.Area.Readings.{position, times, all, padded, whole, code_here, kind_here}
use Rattle.claims.specs.Area.ReadArea.{flag_here, word_here, alias_here, table_here, value_forms, cell_here, record_here}
use Rattle.claims.specs.Area.NodeTree.{node_back}

-- CREATE
unfoldable pub types : List (ℕ × Datatype)
types = (1, boolean) ∷ (2, integer) ∷ (3, floating) ∷ (4, string) ∷ []

-- a default, as a cell's four numbers, or none
unfoldable pub default_forms : Bytes → Bytes → List (ℕ × Reading (Option Value))
default_forms c q = map_second (giving some) (value_forms c q) ++ ((0, padded 3 (give none)) ∷ [])

unfoldable pub column_here : Bytes → Bytes → Reading Made
column_here c q = do
  name ← word_here c q
  type ← code_here types
  nullable ← flag_here
  unique ← flag_here
  index ← flag_here
  reference ← alias_here c q
  default ← kind_here (default_forms c q)
  give (record {
    name = name;
    type = type;
    nullable = nullable;
    default = default;
    unique = unique;
    index = index;
    reference = reference;
  })

unfoldable pub create_here : Bytes → Bytes → Reading (Plan ℕ)
create_here c q = do
  name ← word_here c q
  key ← number
  n ← number
  columns ← times n (column_here c q)
  give (P.create name key columns)

unfoldable pub drop_here : Bytes → Bytes → Reading (Plan ℕ)
drop_here c q = do
  name ← word_here c q
  if_exists ← flag_here
  give (P.drop name if_exists)

-- INSERT: the column's position first
unfoldable pub mapping_here : Reading Mapping
mapping_here = do
  i ← number
  j ← number
  give (record { column = cindex i; value = vindex j })

-- no map, or one more than its length and the map
unfoldable pub map_of : ℕ → Reading (Option (List Mapping))
map_of zero = give none
map_of (suc n) = giving some (times n mapping_here)

unfoldable pub map_here : Reading (Option (List Mapping))
map_here = number >>= map_of

-- DELETE AND UPDATE
-- a table, and the position of its key
unfoldable pub keyed_here : Bytes → Bytes → Catalog → Reading Table
keyed_here c q ts = do
  t ← table_here c q ts
  exactly t.key
  give t

-- a set: the column's position and the cell
unfoldable pub set_here : Reading (ℕ × ℕ)
set_here = do
  i ← number
  x ← number
  give (i, x)

-- A PLAN by its kind, over its node records
unfoldable pub delete_here : Bytes → Bytes → Catalog → List NodeRecord → Reading (Plan ℕ)
delete_here c q ts rs = do
  n ← found (node_back rs)
  t ← keyed_here c q ts
  give (P.delete t n)

unfoldable pub insert_here : Bytes → Bytes → Catalog → List NodeRecord → Reading (Plan ℕ)
insert_here c q ts rs = do
  n ← found (node_back rs)
  t ← table_here c q ts
  m ← map_here
  give (P.insert t m n)

unfoldable pub update_here : Bytes → Bytes → Catalog → List NodeRecord → Reading (Plan ℕ)
update_here c q ts rs = do
  n ← found (node_back rs)
  t ← keyed_here c q ts
  k ← number
  xs ← times k set_here
  give (P.update t n xs)

-- CREATE and DROP have no node
unfoldable pub plan_forms : Bytes → Bytes → Catalog → List (ℕ × (List NodeRecord → Reading (Plan ℕ)))
plan_forms c q ts =
    (1, λ rs. giving P.select (found (node_back rs)))
    ∷ (2, λ rs. demand (is_empty rs) >> create_here c q)
    ∷ (3, λ rs. demand (is_empty rs) >> drop_here c q)
    ∷ (4, delete_here c q ts)
    ∷ (5, insert_here c q ts)
    ∷ (6, update_here c q ts)
    ∷ []

-- THE WHOLE
-- The header is the layout, the statement's kind, how many cells and nodes there are, where the statement's own numbers
-- start, and how many numbers there are in all; behind them all is 0.
unfoldable pub plan_here : Bytes → Bytes → Catalog → List ℕ → Reading (List Cell × Plan ℕ)
plan_here c q ts area = do
  exactly 1
  planOver ← code_here (plan_forms c q ts)
  cell_count ← number
  nodeCount ← number
  start ← number
  end ← number
  cells ← times cell_count (cell_here c q)
  records ← times nodeCount (record_here c q ts)
  position area start
  p ← planOver records
  position area end
  all (exactly 0)
  give (cells, p)

-- the cells and the plan that an area holds, over the two texts and the catalog's tables
unfoldable pub read_plan : Bytes → Bytes → Catalog → List ℕ → Option (List Cell × Plan ℕ)
read_plan c q ts area = whole (plan_here c q ts area) area
