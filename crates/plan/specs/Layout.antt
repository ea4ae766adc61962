-- The plan in the area: a header, the cells of four numbers each, then the nodes and the statement's own numbers; and
-- how many numbers there are at most.
use Rattle.std.specs.Prelude.{ℕ, ◌+◌, ◌*◌}
use Rattle.rules.specs.Area.{header_size}
use Rattle.claims.specs.Room.Nodes as room
use Rattle.claims.specs.Room.Nodes.{most_node_numbers}

-- numbers a cell
abbrev pub cell_size : ℕ
cell_size = 4

-- where n cells end
abbrev pub cells_end : ℕ → ℕ
cells_end n = header_size + cell_size * n

-- cells of a plan: those of the statement's expressions, four for each at most, and one for each starred column
abbrev pub most_plan_cells : ℕ
most_plan_cells = room.most_plan_cells

-- numbers of the nodes and of the statement's own
abbrev pub nodes_size : ℕ
nodes_size = most_node_numbers

-- numbers of a plan in all
abbrev pub plan_size : ℕ
plan_size = cells_end most_plan_cells + nodes_size

-- NODES: how many numbers each has, those of its kind and its length among them
abbrev pub scan_size : ℕ
scan_size = 7

abbrev pub empty_row_size : ℕ
empty_row_size = 3

abbrev pub join_size : ℕ
join_size = 6

abbrev pub filter_size : ℕ
filter_size = 4

-- of an offset or a limit
abbrev pub rows_size : ℕ
rows_size = 5

-- a record's kind and length; with the source of a projection, an order or a remap; with the number of an aggregate's
-- groups
abbrev pub record_head : ℕ
record_head = 2

abbrev pub source_head : ℕ
source_head = 3

abbrev pub aggregate_head : ℕ
aggregate_head = 4

-- where in a record its length stands, and in an aggregate's the number of its groups
abbrev pub length_place : ℕ
length_place = 1

abbrev pub groups_place : ℕ
groups_place = 3

-- parts: an aggregate function, an item of a projection, an order key
abbrev pub function_size : ℕ
function_size = 2

abbrev pub item_size : ℕ
item_size = 3

abbrev pub key_size : ℕ
key_size = 2

-- THE STATEMENT'S OWN NUMBERS
-- of a drop, of a delete, and before an insert's map
abbrev pub own_size : ℕ
own_size = 3

-- before an update's sets and a create's columns
abbrev pub own_head : ℕ
own_head = 4

abbrev pub set_size : ℕ
set_size = 2

abbrev pub mapping_size : ℕ
mapping_size = 2

-- of a created column, its default apart
abbrev pub column_size : ℕ
column_size = 8

-- the kinds of statement
abbrev pub select_code : ℕ
select_code = 1

abbrev pub create_code : ℕ
create_code = 2

abbrev pub drop_code : ℕ
drop_code = 3

abbrev pub delete_code : ℕ
delete_code = 4

abbrev pub insert_code : ℕ
insert_code = 5

abbrev pub update_code : ℕ
update_code = 6
