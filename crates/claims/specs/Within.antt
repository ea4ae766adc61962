-- What holds of a catalog and a statement that were read: the limits on their counts, and every name and value inside
-- its text.
use Rattle.std.specs.Prelude.{ℕ, ◌+◌, ◌≤◌, ◌<◌, ◌≡◌, length}
use Rattle.std.proofs.Math.Option.{Option, none, some}
use Rattle.rules.specs.Refusals.{ok}
use Rattle.rules.specs.Limits.{most_bytes, most_tables, most_table_columns, most_cells, most_depth}
use Rattle.rules.specs.Lists.{Bytes, entry_after, or_else}
use Rattle.rules.specs.Lines.{Word}
use Rattle.rules.specs.Schema.{Column, Table, Catalog, get_table, named_by, must_get_table}
use Rattle.rules.specs.Ast.{Expr, Statement}
use Rattle.rules.specs.Ast as Ast
use Rattle.rules.specs.Sizes.{clause_size, select_size, rows_size, sets_size, columns_size, statement_size}
use Rattle.rules.specs.Reader.{start, base_address}
use Rattle.rules.specs.ReadExpression.{expression}
use Rattle.rules.specs.ReadCatalog.{read_catalog}
use Rattle.rules.specs.ReadStatement.{read_statement}
use Rattle.claims.specs.Answers.{Ensures, ensured, both, weaken, All, Given, all-weaken}
use Rattle.claims.specs.Lists.{all_both, all-entry, given-some}
use Rattle.claims.specs.Reading.Has.{ExprHas, ColumnHas, TableHas, FromHas, SelectHas, StatementHas}
use Rattle.claims.specs.Reading.Limits.{LimitedSelect, Limited, statement-limited}
use Rattle.claims.specs.Reading.Depth.{depth, depth-expression}
use Rattle.claims.specs.Reading.Expression.{gives-expression}
use Rattle.claims.specs.Reading.Statement.{statement-has}
use Rattle.claims.specs.Reading.Catalog.{LimitedTable, catalog-limited, catalog-has}
use Rattle.claims.specs.Building.From.{each-table, found-has}
use Rattle.claims.specs.Words.Within.{CatalogName, CatalogValue, StatementName, StatementValue}
use Rattle.claims.specs.Words.Within.{catalog-sound, statement-sound, whole-within}

-- a table of the catalog, whatever its name
pub record TableWithin (c q : Bytes) (t : Table) : Type 0 where
  pub key : t.key < length t.columns
  pub few : length t.columns ≤ most_table_columns
  pub columns : All (ColumnHas (CatalogValue c q) (CatalogName c q)) t.columns

-- an expression of the statement
pub record ExprWithin (c q : Bytes) (e : Expr) : Type 0 where
  pub parts : ExprHas (StatementValue c q) (StatementName c q) e
  pub shallow : depth e ≤ most_depth

-- the catalog ts and the statement s were read from c and q
pub record TextsWithin (c q : Bytes) (ts : Catalog) (s : Statement) : Type 0 where
  pub short_catalog : length c ≤ most_bytes
  pub short_statement : length q ≤ most_bytes
  pub few_tables : length ts ≤ most_tables
  pub tables : All (TableWithin c q) ts
  pub table_names : All (λ t. CatalogName c q t.name) ts
  pub few_cells : statement_size s ≤ most_cells
  pub counts : Limited s
  pub parts : StatementHas (ExprWithin c q) (StatementName c q) s

-- READING
table-within : (c q : Bytes) (t : Table) → LimitedTable t → TableHas (CatalogValue c q) (CatalogName c q) t
    → TableWithin c q t
table-within c q t l h = record { key = l.0; few = l.1; columns = h.1 }

expressions-within : (c q : Bytes) → Ensures (read_statement q) (StatementHas (ExprWithin c q) (StatementName c q))
unfolding start base_address
expressions-within c q =
    let s = statement-sound c q in
    statement-has s (ExprWithin c q)
    (λ p i. weaken (expression p) _ _ (λ r h. (record { parts = h.0.0; shallow = h.1.0 }, h.0.1))
    (both (expression p) _ _ (gives-expression s p i) (depth-expression s p i)))
    q (whole-within q most_bytes)

-- What holds of both texts that are read.
pub texts-within : (c q : Bytes) → length c ≤ most_bytes → length q ≤ most_bytes → (ts : Catalog) (s : Statement)
    → read_catalog c ≡ ok ts → read_statement q ≡ ok s → TextsWithin c q ts s
unfolding start base_address
texts-within c q l m ts s ec es =
    let k = ensured (read_catalog c) _ (catalog-limited c) ts ec in
    let h = ensured (read_catalog c) _ (catalog-has (catalog-sound c q l) c (whole-within c 0)) ts ec in
    let n = ensured (read_statement q) _ (statement-limited q) s es in
    record {
      short_catalog = l;
      short_statement = m;
      few_tables = k.0;
      tables = all-weaken _ _ (λ t g. table-within c q t g.0 g.1) ts (all_both _ _ ts k.1 h);
      table_names = all-weaken _ _ (λ t g. g.0) ts h;
      few_cells = n.0;
      counts = n.1;
      parts = ensured (read_statement q) _ (expressions-within c q) s es;
    }

-- TABLES
module _ {c q : Bytes} {ts : Catalog} {s : Statement} (h : TextsWithin c q ts s) where
  -- the table at a position
  pub table-at : (i : ℕ) (t : Table) → entry_after i ts ≡ some t → TableWithin c q t
  table-at i t e = all-entry (TableWithin c q) ts h.tables i t e

  -- the table of a name
  pub table-named : (n : Bytes) (t : Table) → get_table ts n ≡ some t → TableWithin c q t
  table-named n t e = given-some (TableWithin c q) (get_table ts n) (each-table (TableWithin c q) ts n h.tables) t e

  -- the table that a statement names
  pub table-must : (l : ℕ) (n : Word) (t : Table) → must_get_table ts l n ≡ ok t → TableWithin c q t
  unfolding named_by
  table-must l n t e = ensured (must_get_table ts l n) _
      (found-has (TableWithin c q) (λ w u g. record { key = g.key; few = g.few; columns = g.columns }) ts l n
      h.tables) t e

-- a column of a table at a position
pub column-within : {c q : Bytes} {t : Table} → TableWithin c q t → (j : ℕ) (x : Column)
    → entry_after j t.columns ≡ some x → ColumnHas (CatalogValue c q) (CatalogName c q) x
column-within {c} {q} {t} h j x e = all-entry (ColumnHas (CatalogValue c q) (CatalogName c q)) t.columns h.columns j x e

-- the name that a table of FROM goes by
pub from-name : {c q : Bytes} (l : ℕ) (n : Word) (a : Option Word)
    → FromHas (ExprWithin c q) (StatementName c q) (Ast.table l n a) → StatementName c q (or_else a n)
unfolding FromHas Given or_else
from-name l n none h = h.0
from-name l n (some b) h = h.1

-- STATEMENTS: the expression cells of each kind
module _ {c q : Bytes} {ts : Catalog} where
  pub select-few : {d : Ast.Select} → TextsWithin c q ts (Ast.select d) → select_size d ≤ most_cells
  unfolding statement_size
  select-few h = h.few_cells

  pub delete-few : {d : Ast.Delete} → TextsWithin c q ts (Ast.delete d) → clause_size d.filter ≤ most_cells
  unfolding statement_size
  delete-few h = h.few_cells

  pub insert-few : {d : Ast.Insert} → TextsWithin c q ts (Ast.insert d) → rows_size d.rows ≤ most_cells
  unfolding statement_size
  insert-few h = h.few_cells

  pub update-few : {d : Ast.Update} → TextsWithin c q ts (Ast.update d)
      → sets_size d.sets + clause_size d.filter ≤ most_cells
  unfolding statement_size
  update-few h = h.few_cells

  pub create-few : {d : Ast.Create} → TextsWithin c q ts (Ast.create d) → columns_size d.columns ≤ most_cells
  unfolding statement_size
  create-few h = h.few_cells

  -- the limits on the records of a SELECT, and its parts
  pub select-counts : {d : Ast.Select} → TextsWithin c q ts (Ast.select d) → LimitedSelect d
  select-counts h = h.counts

  pub select-parts : {d : Ast.Select} → TextsWithin c q ts (Ast.select d) → SelectHas (ExprWithin c q) (StatementName c q) d
  select-parts h = h.parts
