-- The number of a plan's cells is bounded by the size of its statement.
use Rattle.std.specs.Prelude.{ℕ, ◌+◌, ◌*◌, ◌≤◌, ◌≡◌, List, [], ◌∷◌, length}
use Rattle.std.proofs.Common.{arith}
use Rattle.std.proofs.Math.Path.{refl}
use Rattle.std.proofs.Math.Option.{Option, none, some}
use Rattle.rules.specs.Refusals.{other_statement, no_default}
use Rattle.rules.specs.Limits.{most_columns}
use Rattle.rules.specs.Lists.{concat}
use Rattle.rules.specs.Schema.{Value, Column, Catalog, must_get_table, default_at}
use Rattle.rules.specs.Ast.{Expr, size, Delete, Insert, Set, Update, Create, Select, Statement}
use Rattle.rules.specs.Ast as Ast
use Rattle.rules.specs.Scope.{Scope, empty, lookup}
use Rattle.rules.specs.BuildExpression.{found, build, each, build_option, clause_expr}
use Rattle.rules.specs.BuildSelect.{build_select}
use Rattle.rules.specs.BuildStatement.{table_scope, build_delete, column_map, build_insert, or_default, set_value, set_built, build_update, key_columns, primary_key, made_column, build_create, build_statement}
use Rattle.rules.specs.Cells.{built_count, expressions, plan_expressions, plan_cells}
use Rattle.rules.specs.Sizes.{total, option_size, clause_size, rows_size, sets_size, statement_size}
use Rattle.rules.specs.Count.{cost, bound_select}
use Rattle.claims.specs.Answers.{Ensures, then, refusing, both, weaken, past}
use Rattle.claims.specs.Count.Totals.{total-append, total-map, total-most, each-total}
use Rattle.claims.specs.Count.Sums.{plan_cells-length}
use Rattle.claims.specs.Count.Costs.{cost-build, cost-option, cost-most, option-most}
use Rattle.claims.specs.Count.Select.{select-count}
use Rattle.claims.specs.Count.Bound.{select-bound, expanded-most}

-- the most cells of a statement's plan
unfoldable pub most_cells_of : Statement → ℕ
most_cells_of (Ast.select q) = 4 * statement_size (Ast.select q) + most_columns
most_cells_of (Ast.delete d) = 3 * statement_size (Ast.delete d)
most_cells_of (Ast.insert d) = 3 * statement_size (Ast.insert d)
most_cells_of (Ast.update d) = 3 * statement_size (Ast.update d) + length d.sets
most_cells_of (Ast.create d) = 0
most_cells_of (Ast.drop d) = 0
most_cells_of (Ast.other l) = 0

select-cells : (c : Catalog) (q : Select) → Ensures (build_select c q) (λ p. length (plan_cells p) ≤ most_cells_of (Ast.select q))
unfolding most_cells_of statement_size bound_select
select-cells c q = weaken (build_select c q) _ _ (λ p h. omega (arith, h.0, h.1.0, h.1.1))
    (both (build_select c q) _ _ (select-count c q) (both (build_select c q) _ _ (select-bound c q) (expanded-most c q)))

delete-cells : (c : Catalog) (d : Delete) → Ensures (build_delete c d) (λ p. length (plan_cells p) ≤ most_cells_of (Ast.delete d))
unfolding build_delete most_cells_of statement_size clause_size plan_expressions expressions
delete-cells c d =
    past (must_get_table c d.line d.table) _ _ λ t.
    then (build_option (table_scope t) (clause_expr d.filter)) _ _ _ (cost-option (table_scope t) (clause_expr d.filter)) λ w h.
    rw plan_cells-length (omega (arith, h, option-most (table_scope t) (clause_expr d.filter)))

-- INSERT
total-concat : {A : Type 0} (f : A → ℕ) (rs : List (List A)) → total f (concat rs) ≡ total (total f) rs
unfolding total concat
total-concat f [] = refl
total-concat f (r ∷ rs) = omega (arith, total-append f r (concat rs), total-concat f rs)

insert-cells : (c : Catalog) (d : Insert) → Ensures (build_insert c d) (λ p. length (plan_cells p) ≤ most_cells_of (Ast.insert d))
unfolding build_insert most_cells_of statement_size rows_size plan_expressions expressions
insert-cells c d =
    past (must_get_table c d.line d.table) _ _ λ t.
    past (column_map t.columns d.columns) _ _ λ m.
    then (each (each (build empty)) d.rows) _ _ _ (each-total (each (build empty)) (total built_count) (total (cost empty)) (each-total (build empty) built_count (cost empty) (cost-build empty)) d.rows) λ rs h.
    rw (plan_cells-length, total-concat) (omega (arith, h, total-most (total (cost empty)) (total size) (total-most (cost empty) size (cost-most empty)) d.rows))

-- UPDATE
-- a set column costs its expression, or one constant for its default
unfoldable pub value_cost : Scope → Option Expr → ℕ
value_cost s none = 1
value_cost s (some e) = cost s e

value-count : (s : Scope) (cs : List Column) (l i : ℕ) (e : Option Expr) → Ensures (set_value s cs l i e) (λ b. built_count b ≡ value_cost s e)
unfolding set_value value_cost
value-count s cs l i (some e) = cost-build s e
value-count s cs l i none = default-count (default_at cs i)
  where
    default-count : (v : Option Value) → Ensures (or_default l v) (λ b. built_count b ≡ 1)
    default-count none = unfold or_default in (refusing no_default l _)
    default-count (some v) = unfold or_default built_count in refl

set-count : (s : Scope) (cs : List Column) (x : Set) → Ensures (set_built s cs x) (λ y. built_count y.1 ≡ value_cost s x.value)
unfolding set_built
set-count s cs x =
    past (found x.line (lookup s none x.name)) _ _ λ i.
    then (set_value s cs x.line i x.value) _ _ _ (value-count s cs x.line i x.value) λ e h. h

value-most : (s : Scope) (e : Option Expr) → value_cost s e ≤ 3 * option_size e + 1
unfolding value_cost option_size
value-most s none = omega arith
value-most s (some e) = omega (arith, cost-most s e)

sets-most : (s : Scope) (xs : List Set) → total (λ (x : Set). value_cost s x.value) xs ≤ 3 * sets_size xs + length xs
unfolding total sets_size
sets-most s [] = omega arith
sets-most s (x ∷ xs) = omega (arith, value-most s x.value, sets-most s xs)

update-cells : (c : Catalog) (d : Update) → Ensures (build_update c d) (λ p. length (plan_cells p) ≤ most_cells_of (Ast.update d))
unfolding build_update most_cells_of statement_size clause_size plan_expressions expressions
update-cells c d =
    past (must_get_table c d.line d.table) _ _ λ t.
    let s = table_scope t in
    then (build_option s (clause_expr d.filter)) _ _ _ (cost-option s (clause_expr d.filter)) λ w h.
    then (each (set_built s t.columns) d.sets) _ _ _ (each-total (set_built s t.columns) (λ y. built_count y.1) (λ (x : Set). value_cost s x.value) (set-count s t.columns) d.sets) λ xs k.
    simp (plan_cells-length, total-append, total-map) (omega (arith, h, k, option-most s (clause_expr d.filter), sets-most s d.sets))

create-cells : (d : Create) → Ensures (build_create d) (λ p. length (plan_cells p) ≤ most_cells_of (Ast.create d))
unfolding build_create plan_expressions total
create-cells d =
    past (primary_key d.line (key_columns 0 d.columns)) _ _ λ k.
    past (each made_column d.columns) _ _ λ cs. rw plan_cells-length (omega arith)

-- the cells of every accepted statement are within that
pub statement-cells : (c : Catalog) (s : Statement) → Ensures (build_statement c s) (λ p. length (plan_cells p) ≤ most_cells_of s)
unfolding build_statement
statement-cells c (Ast.select q) = select-cells c q
statement-cells c (Ast.delete d) = delete-cells c d
statement-cells c (Ast.insert d) = insert-cells c d
statement-cells c (Ast.update d) = update-cells c d
statement-cells c (Ast.create d) = create-cells d
statement-cells c (Ast.drop d) = unfold most_cells_of plan_expressions total in (rw plan_cells-length (omega arith))
statement-cells c (Ast.other l) = refusing other_statement l _
