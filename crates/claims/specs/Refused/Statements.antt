-- Which refusals are possible for each statement other than SELECT, by document 01's numbers.
use Rattle.std.specs.Prelude.{ℕ, suc, Bool, List, [], ◌∷◌}
use Rattle.std.proofs.Math.Path.{refl}
use Rattle.std.proofs.Math.Option.{Option, none, some}
use Rattle.rules.specs.Refusals.{statement, refusal_number, unknown_table, unknown_insert_column, repeated_insert_column}
use Rattle.rules.specs.Refusals.{no_default, no_primary_key, multiple_primary_keys, ok, refuse}
use Rattle.rules.specs.Lists.{any}
use Rattle.rules.specs.Lines.{Word}
use Rattle.rules.specs.Schema.{Value, Column, Table, Catalog, get_table, named_by, must_get_table, default_at}
use Rattle.rules.specs.Ast.{Expr, Delete, Named, Insert, Update, NewColumn, Create}
use Rattle.rules.specs.Ast as Ast
use Rattle.rules.specs.Plan.{TablePosition, ValuePosition, vindex, Mapping}
use Rattle.rules.specs.Scope.{from_table}
use Rattle.rules.specs.BuildExpression.{build, clause_expr}
use Rattle.rules.specs.BuildStatement.{table_scope, build_delete, mapped, table_position, map_column, map_from, column_map}
use Rattle.rules.specs.BuildStatement.{build_insert, or_default, set_value, set_built, build_update, KeyColumn, key_columns}
use Rattle.rules.specs.BuildStatement.{primary_key, default_value, made_column, build_create}
use Rattle.claims.specs.Refused.Refuses.{Refuses, accepted, first, each-refuses, Among, among-more, refuse-among}
use Rattle.claims.specs.Refused.Refuses.{if-among}
use Rattle.claims.specs.Refused.Expressions.{found_among, lookup-unaggregated, unaggregated, build-unaggregated}
use Rattle.claims.specs.Refused.Expressions.{build-empty, option-among, constant_numbers, constant-among}

-- a table that is named
pub table-among : (c : Catalog) (l : ℕ) (n : Word) → Refuses (must_get_table c l n) (Among statement (5 ∷ []))
unfolding must_get_table refusal_number any
table-among c l n = go (get_table c n.bytes)
  where
    go : (o : Option Table) → Refuses {A = Table} (elim o [
      | some t ↦ ok (named_by n t)
      | none ↦ refuse unknown_table l
    ]) (Among statement (5 ∷ []))
    go none = refuse-among unknown_table l refl
    go (some t) = accepted

-- a table's columns are no aggregates
build-table : (t : Table) (e : Expr) → Refuses (build (table_scope t) e) (Among statement unaggregated)
unfolding table_scope from_table
build-table t = build-unaggregated (table_scope t) refl

-- DELETE
pub delete-refusals : (c : Catalog) (d : Delete)
    → Refuses (build_delete c d) (Among statement (5 ∷ 7 ∷ 8 ∷ 9 ∷ 10 ∷ 12 ∷ 13 ∷ 29 ∷ []))
unfolding build_delete any
delete-refusals c d =
    first (among-more refl (table-among c d.line d.table)) λ t e.
    first (among-more refl (option-among (table_scope t) (build-table t) (clause_expr d.filter))) λ w e₁.
    accepted

-- INSERT
map_column-among : (l : ℕ) (o : Option TablePosition) (v : ValuePosition) (m : List Mapping)
    → Refuses (map_column l o v m) (Among statement (22 ∷ 23 ∷ []))
unfolding map_column refusal_number any
map_column-among l none v m = refuse-among unknown_insert_column l refl
map_column-among l (some c) v m = first (if-among (mapped c m) repeated_insert_column l refl) λ u e. accepted

map_from-among : (cs : List Column) (ns : List Named) (v : ℕ) (m : List Mapping)
    → Refuses (map_from cs ns v m) (Among statement (22 ∷ 23 ∷ []))
unfolding map_from
map_from-among cs [] v m = accepted
map_from-among cs (n ∷ ns) v m =
    first (map_column-among n.line (table_position cs n.name) (vindex v) m) λ m₁ e. map_from-among cs ns (suc v) m₁

column_map-among : (cs : List Column) (o : Option (List Named))
    → Refuses (column_map cs o) (Among statement (22 ∷ 23 ∷ []))
unfolding column_map
column_map-among cs none = accepted
column_map-among cs (some ns) = first (map_from-among cs ns 0 []) λ m e. accepted

pub insert-refusals : (c : Catalog) (d : Insert)
    → Refuses (build_insert c d) (Among statement (5 ∷ 10 ∷ 12 ∷ 13 ∷ 22 ∷ 23 ∷ 29 ∷ []))
unfolding build_insert any
insert-refusals c d =
    first (among-more refl (table-among c d.line d.table)) λ t e.
    first (among-more refl (column_map-among t.columns d.columns)) λ m e₁.
    first (among-more refl (each-refuses (each-refuses build-empty) d.rows)) λ rs e₂.
    accepted

-- UPDATE
abbrev update_numbers : List ℕ
update_numbers = 5 ∷ 7 ∷ 8 ∷ 9 ∷ 10 ∷ 12 ∷ 13 ∷ 24 ∷ 29 ∷ []

default-among : (l : ℕ) (o : Option Value) → Refuses (or_default l o) (Among statement update_numbers)
unfolding or_default refusal_number any
default-among l none = refuse-among no_default l refl
default-among l (some v) = accepted

module _ (t : Table) where
  value-among : (cs : List Column) (l i : ℕ) (o : Option Expr)
      → Refuses (set_value (table_scope t) cs l i o) (Among statement update_numbers)
  unfolding set_value any
  value-among cs l i (some e) = among-more refl (build-table t e)
  value-among cs l i none = default-among l (default_at cs i)

  set-among : (x : Ast.Set) → Refuses (set_built (table_scope t) t.columns x) (Among statement update_numbers)
  unfolding set_built table_scope from_table any
  set-among x =
      first (found_among x.line _
      (lookup-unaggregated (table_scope t) refl update_numbers refl refl refl refl none x.name)) λ i e.
      first (value-among t.columns x.line i x.value) λ y e₁.
      accepted

pub update-refusals : (c : Catalog) (d : Update)
    → Refuses (build_update c d) (Among statement (5 ∷ 7 ∷ 8 ∷ 9 ∷ 10 ∷ 12 ∷ 13 ∷ 24 ∷ 29 ∷ []))
unfolding build_update any
update-refusals c d =
    first (among-more refl (table-among c d.line d.table)) λ t e.
    first (among-more refl (option-among (table_scope t) (build-table t) (clause_expr d.filter))) λ w e₁.
    first (each-refuses (set-among t) d.sets) λ xs e₂.
    accepted

-- CREATE
key-among : (l : ℕ) (ks : List KeyColumn) → Refuses (primary_key l ks) (Among statement (20 ∷ 21 ∷ []))
unfolding primary_key refusal_number any
key-among l [] = refuse-among no_primary_key l refl
key-among l (k ∷ []) = accepted
key-among l (k ∷ (m ∷ r)) = refuse-among multiple_primary_keys m.line refl

column-among : (c : NewColumn) → Refuses (made_column c) (Among statement constant_numbers)
unfolding made_column default_value
column-among c = first (go _ c.default) λ d e. accepted
  where
    go : (n : Bool) (o : Option Expr) → Refuses (default_value n o) (Among statement constant_numbers)
    go n none = accepted
    go n (some e) = first (constant-among e) λ v u. accepted

pub create-refusals : (d : Create)
    → Refuses (build_create d) (Among statement (10 ∷ 12 ∷ 13 ∷ 20 ∷ 21 ∷ 25 ∷ 26 ∷ 27 ∷ 28 ∷ 29 ∷ []))
unfolding build_create any
create-refusals d =
    first (among-more refl (key-among d.line (key_columns 0 d.columns))) λ k e.
    first (among-more refl (each-refuses column-among d.columns)) λ cs e₁.
    accepted
