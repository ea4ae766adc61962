-- Every column number of an accepted statement's plan is below the width that its expression reads.
use Rattle.std.specs.Prelude.{ℕ, ◌<◌, List, length}
use Rattle.std.proofs.Math.Option.{Option, none, some}
use Rattle.rules.specs.Refusals.{other_statement, no_default}
use Rattle.rules.specs.Lists.{Bytes}
use Rattle.rules.specs.Schema.{Value, Column, Table, Catalog, must_get_table, default_at}
use Rattle.rules.specs.Ast.{Expr, Delete, Insert, Update, Create, Statement}
use Rattle.rules.specs.Ast as Ast
use Rattle.rules.specs.Plan.{column_count}
use Rattle.rules.specs.Scope.{Scope, empty, lookup}
use Rattle.rules.specs.BuildExpression.{found, build, each, build_option, clause_expr}
use Rattle.rules.specs.BuildStatement.{table_scope, build_delete, column_map, build_insert, or_default, set_value, set_built}
use Rattle.rules.specs.BuildStatement.{build_update, key_columns, primary_key, made_column, build_create, build_statement}
use Rattle.rules.specs.ReadCatalog.{read_catalog}
use Rattle.rules.specs.ReadStatement.{read_statement}
use Rattle.rules.specs.Entry.{plan_of}
use Rattle.claims.specs.Answers.{Ensures, then, past, refusing, weaken, All, each-ensures}
use Rattle.claims.specs.Widths.Below.{Below, found_below, lookup-below}
use Rattle.claims.specs.Widths.Scopes.{Wide, wide-width, wide-empty, wide-table}
use Rattle.claims.specs.Widths.Bounded.{Bounded, PlanBounded, wide-build, wide-option}
use Rattle.claims.specs.Widths.SelectStages.{select-bounded}

-- a table's own scope has its columns
pub table-wide : (t : Table) → Wide (length t.columns) (table_scope t)
unfolding table_scope
table-wide t = wide-table t.name t

-- DELETE
delete-bounded : (c : Catalog) (d : Delete) → Ensures (build_delete c d) PlanBounded
unfolding build_delete Bounded
delete-bounded c d =
    past (must_get_table c d.line d.table) _ _ λ t.
    then (build_option (table_scope t) (clause_expr d.filter)) _ _ _
    (wide-option _ _ (clause_expr d.filter) (table-wide t)) λ w hw. hw

-- INSERT
row-bounded : (es : List Expr) → Ensures (each (build empty) es) (All (Below 0))
row-bounded es = weaken (each (build empty) es) _ _ (λ xs h. h.0)
    (each-ensures (build empty) (Below 0) (λ e. wide-build 0 empty e wide-empty) es)

insert-bounded : (c : Catalog) (d : Insert) → Ensures (build_insert c d) PlanBounded
unfolding build_insert Bounded
insert-bounded c d =
    past (must_get_table c d.line d.table) _ _ λ t.
    past (column_map t.columns d.columns) _ _ λ m.
    then (each (each (build empty)) d.rows) _ _ _
    (each-ensures (each (build empty)) (All (Below 0)) row-bounded d.rows) λ rs h. h.0

-- UPDATE
default_below : (w l : ℕ) (v : Option Value) → Ensures (or_default l v) (Below w)
unfolding or_default Below
default_below w l none = refusing no_default l _
default_below w l (some v) = tt

value-below : (w : ℕ) (s : Scope) (cs : List Column) (l i : ℕ) (e : Option Expr) → Wide w s
    → Ensures (set_value s cs l i e) (Below w)
unfolding set_value
value-below w s cs l i (some e) h = wide-build w s e h
value-below w s cs l i none h = default_below w l (default_at cs i)

-- a set's position, and the columns of its expression, are below the width of its scope
pub set_below : (w : ℕ) (s : Scope) (cs : List Column) (x : Ast.Set) → Wide w s
    → Ensures (set_built s cs x) (λ y. (y.0 < w) × Below w y.1)
unfolding set_built
set_below w s cs x h =
    let f = lookup s none x.name in
    then (found x.line f) _ _ _
    (found_below w x.line f (rw (wide-width w s h) at (lookup-below s none x.name))) λ i p.
    then (set_value s cs x.line i x.value) _ _ _ (value-below w s cs x.line i x.value h) λ e q. (p, q)

update-bounded : (c : Catalog) (d : Update) → Ensures (build_update c d) PlanBounded
unfolding build_update Bounded column_count
update-bounded c d =
    past (must_get_table c d.line d.table) _ _ λ t.
    let s = table_scope t in
    then (build_option s (clause_expr d.filter)) _ _ _
    (wide-option _ s (clause_expr d.filter) (table-wide t)) λ w hw.
    then (each (set_built s t.columns) d.sets) _ _ _
    (each-ensures (set_built s t.columns) _ (λ x. set_below _ s t.columns x (table-wide t)) d.sets) λ xs hx.
    (hw, hx.0)

-- CREATE
create-bounded : (d : Create) → Ensures (build_create d) PlanBounded
unfolding build_create
create-bounded d =
    past (primary_key d.line (key_columns 0 d.columns)) _ _ λ k.
    past (each made_column d.columns) _ _ λ cs. tt

-- every statement's plan is bounded
pub widths : (c : Catalog) (s : Statement) → Ensures (build_statement c s) PlanBounded
unfolding build_statement
widths c (Ast.select q) = select-bounded c q
widths c (Ast.delete d) = delete-bounded c d
widths c (Ast.insert d) = insert-bounded c d
widths c (Ast.update d) = update-bounded c d
widths c (Ast.create d) = create-bounded d
widths c (Ast.drop d) = tt
widths c (Ast.other l) = refusing other_statement l _

-- and so is the plan of two texts
pub plan-bounded : (c q : Bytes) → Ensures (plan_of c q) PlanBounded
unfolding plan_of
plan-bounded c q = past (read_catalog c) _ _ λ ts. past (read_statement q) _ _ λ s. widths ts s
