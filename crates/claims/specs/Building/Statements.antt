-- Every accepted plan has what the values and names of its catalog and its statement have.
use Prim.Native.Nat.{ℕ, zero, suc}
use Rattle.std.proofs.Common.{arith}
use Rattle.std.specs.Prelude.{◌≡◌, Bool, not}
use Rattle.std.proofs.Math.Bool.{true, false}
use mathlib.Core.List.{List, [], ◌∷◌}
use Rattle.std.proofs.Math.Option.{Option, none, some}
use Rattle.rules.specs.Refusals.{ok, ◌>>=◌, catalog, statement, other_statement, no_default}
use Rattle.rules.specs.Lists.{Bytes, or_else}
use Rattle.rules.specs.Lines.{Word}
use Rattle.rules.specs.Schema.{Value, Column, Table, Catalog, must_get_table, default_at, named_by}
use Rattle.rules.specs.Ast.{Expr, NewColumn, Statement}
use Rattle.rules.specs.Ast as Ast
use Rattle.rules.specs.Reader.{Place, start}
use Rattle.rules.specs.ReadCatalog.{read_catalog}
use Rattle.rules.specs.ReadStatement.{read_statement}
use Rattle.rules.specs.Scope.{Scope, empty, lookup}
use Rattle.rules.specs.BuildExpression.{found, build, each, build_option, clause_expr, constant}
use Rattle.rules.specs.BuildStatement.{table_scope, column_map, build_delete, build_insert, or_default, set_value, set_built, build_update, key_columns, primary_key, null_default, default_value, made_column, build_create, build_statement}
use Rattle.rules.specs.Entry.{plan_of}
use Rattle.claims.specs.Answers.{Ensures, then, both, weaken, refusing, ensured, past, All, Given, all-weaken, each_from}
use Rattle.claims.specs.Values.Outcomes.{Kept}
use Rattle.claims.specs.Reading.Has.{ColumnHas, TableHas, StatementHas, Literals}
use Rattle.claims.specs.Reading.Sound.{Sound, any-names}
use Rattle.claims.specs.Reading.Expression.{gives-expression}
use Rattle.claims.specs.Reading.Statement.{statement-has}
use Rattle.claims.specs.Reading.Catalog.{catalog-has}
use Rattle.claims.specs.Building.Has.{TreeHas, NodeHas, MadeHas, PlanHas}
use Rattle.claims.specs.Building.Expressions.{build-has, option-has, constant-has}
use Rattle.claims.specs.Building.Positions.{columns-mapped, key_below}
use Rattle.claims.specs.Building.From.{table-found, found-has}
use Rattle.claims.specs.Building.Select.{select_has}

module _ {Q : Value → Type 0} (k : Kept Q) (N : Word → Type 0) where
  -- UPDATE
  default-has : (cs : List Column) (i : ℕ) → All (ColumnHas Q N) cs → Given Q (default_at cs i)
  unfolding default_at All Given
  default-has [] i h = tt
  default-has (c ∷ cs) zero h = h.0.1
  default-has (c ∷ cs) (suc i) h = default-has cs i h.1

  or_default-has : (l : ℕ) (o : Option Value) → Given Q o → Ensures (or_default l o) (TreeHas Q)
  unfolding or_default TreeHas Given
  or_default-has l none h = refusing no_default l (TreeHas Q)
  or_default-has l (some v) h = h

  value-has : (s : Scope) (cs : List Column) (l i : ℕ) (o : Option Expr) → All (ColumnHas Q N) cs → Given (Literals Q) o → Ensures (set_value s cs l i o) (TreeHas Q)
  unfolding set_value Given
  value-has s cs l i none h g = or_default-has l (default_at cs i) (default-has cs i h)
  value-has s cs l i (some e) h g = build-has Q s e g

  set-has : (s : Scope) (cs : List Column) → All (ColumnHas Q N) cs → (x : Ast.Set) → N x.name × Given (Literals Q) x.value → Ensures (set_built s cs x) (λ r. TreeHas Q r.1)
  unfolding set_built
  set-has s cs h x g = past (found x.line (lookup s none x.name)) _ _ λ i. then (set_value s cs x.line i x.value) _ _ _ (value-has s cs x.line i x.value h g.1) λ e m. m

  -- CREATE
  made-default : (b : Bool) (o : Option Expr) → Given (Literals Q) o → Ensures (default_value b o) (Given Q)
  unfolding default_value null_default Given
  made-default true none h = k.nulls
  made-default false none h = tt
  made-default b (some e) h = then (constant e) _ _ _ (constant-has k e h) λ v g. g

  made-has : (c : NewColumn) → N c.name × Given N c.reference × Given (Literals Q) c.default → Ensures (made_column c) (MadeHas Q N)
  unfolding made_column
  made-has c h = then (default_value (or_else c.nullable (not c.key)) c.default) _ _ _ (made-default _ c.default h.2) λ v g. (g, h.0, h.1)

  -- STATEMENTS
  abbrev ColumnsHave : Table → Type 0
  ColumnsHave t = All (ColumnHas Q N) t.columns

  columns-named : (n : Word) (t : Table) → ColumnsHave t → ColumnsHave (named_by n t)
  unfolding named_by
  columns-named n t h = h

  tables-have : (c : Catalog) → All (TableHas Q N) c → All ColumnsHave c
  tables-have c h = all-weaken (TableHas Q N) ColumnsHave (λ t g. g.1) c h

  -- the plan over a catalog
  pub plan-has : (c : Catalog) (s : Statement) → All (TableHas Q N) c → StatementHas (Literals Q) N s → Ensures (build_statement c s) (PlanHas Q N c)
  unfolding build_statement build_delete build_insert build_update build_create PlanHas NodeHas Given
  plan-has c (Ast.select q) t h = select_has k N c q h
  plan-has c (Ast.delete d) t h =
      then (must_get_table c d.line d.table) _ _ _ (table-found c d.line d.table) λ r e.
      let n : N r.name = rw e.0 h.0 in
      then (build_option (table_scope r) (clause_expr d.filter)) _ _ _ (option-has Q _ (clause_expr d.filter) h.1) λ w g.
      (e.1, (e.1, g, tt, n), n)
  plan-has c (Ast.insert d) t h =
      then (must_get_table c d.line d.table) _ _ _ (table-found c d.line d.table) λ r e.
      then (column_map r.columns d.columns) _ _ _ (columns-mapped r.columns d.columns) λ m g.
      then (each (each (build empty)) d.rows) _ _ _
      (each_from (each (build empty)) (All (Literals Q)) (All (TreeHas Q))
      (λ es x. weaken (each (build empty) es) _ _ (λ r g. g.0) (each_from (build empty) (Literals Q) (TreeHas Q) (build-has Q empty) es x))
      d.rows h.2) λ rs x.
      (e.1, x.0, g, rw e.0 h.0)
  plan-has c (Ast.update d) t h =
      then (must_get_table c d.line d.table) _ _ _
      (both (must_get_table c d.line d.table) _ _ (table-found c d.line d.table) (found-has ColumnsHave columns-named c d.line d.table (tables-have c t))) λ r e.
      let s = table_scope r in
      let n : N r.name = rw e.0.0 h.0 in
      then (build_option s (clause_expr d.filter)) _ _ _ (option-has Q s (clause_expr d.filter) h.2) λ w g.
      then (each (set_built s r.columns) d.sets) _ _ _
      (each_from (set_built s r.columns) _ _ (set-has s r.columns e.1) d.sets h.1) λ xs x.
      (e.0.1, (e.0.1, g, tt, n), x.0, n)
  plan-has c (Ast.create d) t h =
      then (primary_key d.line (key_columns 0 d.columns)) _ _ _ (key_below d.line d.columns) λ i l.
      then (each made_column d.columns) _ _ _ (each_from made_column _ _ made-has d.columns h.1) λ cs g.
      (omega (arith, g.1), g.0, h.0)
  plan-has c (Ast.drop d) t h = h
  plan-has c (Ast.other l) t h = refusing other_statement l _

-- the plan of two texts, over the catalog that is read
pub planned : {F G : Word → Type 0} {Q : Value → Type 0} {N : Word → Type 0} {I J : Place → Type 0} → Sound F Q N I → Sound G Q N J
    → (c q : Bytes) → I (start catalog c) → J (start statement q) → (ts : Catalog) → read_catalog c ≡ ok ts → Ensures (plan_of c q) (PlanHas Q N ts)
unfolding plan_of ◌>>=◌
planned {Q = Q} {N = N} s t c q i j ts e =
    let tables = ensured (read_catalog c) (All (TableHas Q N)) (catalog-has s c i) ts e in
    rw e (then (read_statement q) _ _ _ (statement-has t (Literals Q) (gives-expression (any-names t)) q j) λ a h. plan-has s.kept N ts a tables h)
