-- The numbers of every accepted plan fit in the area's least length.
use Rattle.std.specs.Prelude.{◌+◌, ◌≤◌, List, [], ◌∷◌, length}
use Rattle.std.proofs.Common.{arith}
use Rattle.std.proofs.Math.Option.{Option, none, some}
use Rattle.rules.specs.Refusals.{other_statement}
use Rattle.rules.specs.Limits.{most_cells, most_entries, most_table_columns, least_area}
use Rattle.rules.specs.Lists.{Bytes}
use Rattle.rules.specs.Schema.{Catalog, Column, must_get_table}
use Rattle.rules.specs.Ast.{Expr, size, Named, Delete, Insert, Update, Create, Statement}
use Rattle.rules.specs.Ast as Ast
use Rattle.rules.specs.ReadCatalog.{read_catalog}
use Rattle.rules.specs.ReadStatement.{read_statement}
use Rattle.rules.specs.Sizes.{total, rows_size, statement_size}
use Rattle.rules.specs.Plan.{Built, Plan}
use Rattle.rules.specs.Scope.{empty}
use Rattle.rules.specs.BuildExpression.{build, each, build_option, clause_expr}
use Rattle.rules.specs.BuildStatement.{table_scope, map_from, column_map, build_delete, build_insert, build_update, set_built}
use Rattle.rules.specs.BuildStatement.{key_columns, primary_key, made_column, build_create, build_statement}
use Rattle.rules.specs.Area.{plan_numbers}
use Rattle.rules.specs.Entry.{plan_of}
use Rattle.claims.specs.Answers.{Ensures, then, refusing, both, weaken, All, Given, past, each-length}
use Rattle.claims.specs.Building.Positions.{from-mapped}
use Rattle.claims.specs.Reading.Limits.{Limited, LimitedInsert, statement-limited}
use Rattle.claims.specs.Count.Statements.{most_cells_of, statement-cells}
use Rattle.claims.specs.Reading.Capped.{size-positive}
use Rattle.claims.specs.Room.Nodes.{most_plan_cells, most_node_numbers, rows_room, node_room, plan_node_room, map_room, own_room, plan-room}
use Rattle.claims.specs.Room.Select.{select-room}

-- INSERT
pub length-size : (es : List Expr) → length es ≤ total size es
unfolding total
length-size [] = omega arith
length-size (e ∷ es) = omega (arith, size-positive e, length-size es)

-- built rows take as many numbers as there are rows and cells
pub rows-room : (rs : List (List Expr))
    → Ensures (each (each (build empty)) rs) (λ bs. rows_room bs ≤ length rs + rows_size rs)
unfolding each rows_room rows_size total
rows-room [] = omega arith
rows-room (r ∷ rs) =
    then (each (build empty) r) _ _ _ (each-length (build empty) r) λ b hb.
    then (each (each (build empty)) rs) _ _ _ (rows-room rs) λ bs hbs. omega (arith, hb, length-size r)

pub map-room : (cs : List Column) (ns : Option (List Named)) → Given (λ (n : List Named). length n ≤ 64) ns
    → Ensures (column_map cs ns) (λ m. map_room m ≤ 129)
unfolding column_map map_room Given All
map-room cs none h = omega arith
map-room cs (some ns) h = then (map_from cs ns 0 []) _ _ _ (from-mapped cs ns [] tt) λ m hm. omega (arith, hm.0)

-- NODES AND OWN NUMBERS of each statement
Small : Plan Built → Type 0
Small p = plan_node_room p + own_room p ≤ most_node_numbers

delete-small : (c : Catalog) (d : Delete) → Ensures (build_delete c d) Small
unfolding build_delete Small plan_node_room own_room node_room
delete-small c d =
    past (must_get_table c d.line d.table) _ _ λ t.
    past (build_option (table_scope t) (clause_expr d.filter)) _ _ λ w.
    omega arith

insert-small : (c : Catalog) (d : Insert) → rows_size d.rows ≤ most_cells → LimitedInsert d
    → Ensures (build_insert c d) Small
unfolding build_insert Small plan_node_room own_room node_room
insert-small c d k h =
    past (must_get_table c d.line d.table) _ _ λ t.
    then (column_map t.columns d.columns) _ _ _ (map-room t.columns d.columns h.columns) λ m hm.
    then (each (each (build empty)) d.rows) _ _ _ (rows-room d.rows) λ rs hr.
    omega (arith, h.rows)

update-small : (c : Catalog) (d : Update) → length d.sets ≤ most_entries → Ensures (build_update c d) Small
unfolding build_update Small plan_node_room own_room node_room
update-small c d h =
    past (must_get_table c d.line d.table) _ _ λ t.
    let set = set_built (table_scope t) t.columns in
    past (build_option (table_scope t) (clause_expr d.filter)) _ _ λ w.
    then (each set d.sets) _ _ _ (each-length set d.sets) λ xs hx.
    omega (arith, hx)

create-small : (d : Create) → length d.columns ≤ most_table_columns → Ensures (build_create d) Small
unfolding build_create Small plan_node_room own_room
create-small d h =
    past (primary_key d.line (key_columns 0 d.columns)) _ _ λ k.
    then (each made_column d.columns) _ _ _ (each-length made_column d.columns) λ cs hc.
    omega (arith, hc)

statement-small : (c : Catalog) (s : Statement) → statement_size s ≤ most_cells → Limited s
    → Ensures (build_statement c s) Small
unfolding build_statement statement_size Small
statement-small c (Ast.select q) k h = select-room c q h.from h.order
statement-small c (Ast.delete d) k h = delete-small c d
statement-small c (Ast.insert d) k h = insert-small c d k h
statement-small c (Ast.update d) k h = update-small c d h
statement-small c (Ast.create d) k h = create-small d h
statement-small c (Ast.drop d) k h = unfold plan_node_room own_room in (omega arith)
statement-small c (Ast.other l) k h = refusing other_statement l _

-- at most 2,304 cells
pub cells-most : (s : Statement) → statement_size s ≤ most_cells → Limited s → most_cells_of s ≤ most_plan_cells
unfolding most_cells_of
cells-most (Ast.select q) k h = omega arith
cells-most (Ast.delete d) k h = omega arith
cells-most (Ast.insert d) k h = omega arith
cells-most (Ast.update d) k h = omega arith
cells-most (Ast.create d) k h = omega arith
cells-most (Ast.drop d) k h = omega arith
cells-most (Ast.other l) k h = omega arith

statement-room : (c : Catalog) (s : Statement) → statement_size s ≤ most_cells → Limited s
    → Ensures (build_statement c s) (λ p. length (plan_numbers p) ≤ least_area)
unfolding Small
statement-room c s k h =
    weaken (build_statement c s) _ _ (λ p g. omega (arith, plan-room p, g.0, g.1, cells-most s k h))
    (both (build_statement c s) _ _ (statement-cells c s) (statement-small c s k h))

-- the numbers of every accepted plan fit in 16,384
pub room : (c q : Bytes) → Ensures (plan_of c q) (λ p. length (plan_numbers p) ≤ least_area)
unfolding plan_of
room c q =
    past (read_catalog c) _ _ λ ts.
    then (read_statement q) _ _ _ (statement-limited q) λ s h.
    statement-room ts s h.0 h.1
