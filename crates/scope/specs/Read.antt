-- What was read fits a scope: every name of both texts has a label, and every table of the catalog a scope.
use Rattle.std.specs.Prelude.{ℕ, ◌+◌, ◌-◌, ◌≤◌, ◌≡◌, List, length}
use native.Mathlib.Omega.{arith}
use Rattle.std.proofs.Common.{sym}
use Rattle.std.proofs.Math.Option.{some}
use Rattle.rules.specs.Lists.{Bytes, entry_after}
use Rattle.rules.specs.Lines.{Word}
use Rattle.rules.specs.Schema.{Table, Catalog}
use Rattle.rules.specs.Ast.{Expr, Statement}
use Rattle.rules.specs.Places.{word_at}
use Rattle.rules.specs.Scope as rules
use Rattle.claims.specs.Words.Ends.{end_address}
use Rattle.claims.specs.Words.Within.{NameWithin, CatalogName, StatementName, name_below}
use Rattle.claims.specs.Within.{TableWithin, TextsWithin, table-at, column-within}
use Rattle.schema.specs.Layout.{table_at, catalog_at}
use Rattle.schema.specs.Search.{found_table, table_from, table-position}
use Rattle.std.specs.Prelude as std
use Rattle.scope.specs.Labels.{Fits}
use Rattle.scope.specs.Scopes.{scope_of}
use Rattle.scope.specs.FromTable.{TableFits, FromTable}
use Rattle.scope.specs.declared.Scope.{Scope}

name-fits : {c q t : Bytes} {b : ℕ} {w : Word} → NameWithin c q t b w → b + length t ≤ end_address → Fits w
name-fits h k = record { start = name_below h k; size = omega (arith, h.most) }

module _ {c q : Bytes} {ts : Catalog} {s : Statement} (h : TextsWithin c q ts s) where
  -- a name of the statement, and one of the catalog
  pub statement-fits : {w : Word} → StatementName c q w → Fits w
  statement-fits n = name-fits n (omega (arith, h.short_statement))

  pub catalog-fits : {w : Word} → CatalogName c q w → Fits w
  catalog-fits n = name-fits n (omega (arith, h.short_catalog))

  -- a table of the catalog, under any name
  pub table_fits : {t : Table} → TableWithin c q t → TableFits t
  table_fits g = record { few = omega (arith, g.few); names = λ j x e. catalog-fits (column-within g j x e).0 }

  -- a table that is found in the numbers of the catalog
  module _ (tables : List ℕ) (e : catalog_at c q tables ≡ ts) (i : ℕ) (n : Bytes)
      (f : found_table c q tables (std.Some i) ≡ table_from 0 (catalog_at c q tables) n) where
    found-entry : entry_after i ts ≡ some (table_at c q tables i)
    unfolding found_table
    found-entry =
        let z : i - 0 ≡ i = omega arith in
        rw (z, e) at (table-position 0 (catalog_at c q tables) n (i, table_at c q tables i) (sym f)).1

    pub found_within : TableWithin c q (table_at c q tables i)
    found_within = table-at h i (table_at c q tables i) found-entry

    -- its scope under a name of the statement
    pub found_scope : {a m : ℕ} {r : Scope} → FromTable tables i a m r → StatementName c q (word_at c q a m)
        → (x : ℕ → Expr) → scope_of x c q r ≡ rules.from_table (word_at c q a m) (table_at c q tables i)
    found_scope g w x = g.is x c q (statement-fits w) (table_fits found_within)
