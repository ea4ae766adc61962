-- The table that a statement names, by its position in the catalog's numbers, and its scope.
use Rattle.std.specs.Prelude.{ℕ, ◌≡◌, List, Result, Ok, Err}
use Rattle.std.proofs.Math.Path.{refl}
use Rattle.std.proofs.Common.{sym, ap, ◌∙◌}
use Rattle.rules.specs.Refusals.{ok, unknown_table}
use Rattle.rules.specs.Lists.{Bytes, map_option}
use Rattle.rules.specs.Places.{bytes_at, word_at}
use Rattle.rules.specs.Schema.{Table, get_table, named_by, must_get_table}
use Rattle.rules.specs.Ast.{Expr, Statement}
use Rattle.rules.specs.Scope.{from_table}
use Rattle.rules.specs.BuildStatement.{table_scope}
use Rattle.claims.specs.Within.{TextsWithin}
use Rattle.claims.specs.Words.Within.{StatementName}
use Rattle.appends.specs.From.Merge as M
use Rattle.schema.specs.Layout.{table_at, catalog_at}
use Rattle.schema.specs.Search.{table_from, found_table, table-found, TablePosition, position-found, position-missing}
use Rattle.std.specs.Prelude as std
use Rattle.scope.specs.Scopes.{scope_of}
use Rattle.scope.specs.FromTable.{FromTable}
use Rattle.scope.specs.Read.{found_scope}
use Rattle.scope.specs.declared.Scope.{Scope}
use Rattle.numbers.specs.Reasons.{named}
use Rattle.numbers.specs.declared.refusals.Reason.TheVariants as Re
use Rattle.numbers.specs.declared.refusals.Refusal.{Refusal}
use Rattle.plan.specs.Steps.{RefusedWith, refused-at}

-- the i-th table under the name that is the n bytes at a
abbrev pub table_named : Bytes → Bytes → List ℕ → ℕ → ℕ → ℕ → Table
table_named c q tables i a n = named_by (word_at c q a n) (table_at c q tables i)

-- the position of the table of the name that is the n bytes at a, as it was found
module _ (c q : Bytes) (tables : List ℕ) (a n l : ℕ) where
  got : (r : std.Option ℕ) → found_table c q tables r ≡ table_from 0 (catalog_at c q tables) (bytes_at c q a n)
      → get_table (catalog_at c q tables) (bytes_at c q a n) ≡ map_option (λ (x : ℕ × Table). x.1) (found_table c q tables r)
  got r f = sym (ap (map_option (λ (x : ℕ × Table). x.1)) f ∙ table-found 0 (catalog_at c q tables) (bytes_at c q a n))

  module _ {r : Result ℕ Refusal} (p : TablePosition c q tables (bytes_at c q a n) l r) where
    pub table-missing : (w : Refusal) → r ≡ Err w → RefusedWith (must_get_table (catalog_at c q tables) l (word_at c q a n)) w
    unfolding word_at found_table map_option named
    table-missing w e = let m = position-missing p w e in
        rw m.1 (refused-at unknown_table l Re.UnknownTable l
        (M.table-unknown (catalog_at c q tables) l (word_at c q a n) (got std.None m.0)) refl refl)

    module _ (i : ℕ) (e : r ≡ Ok i) where
      found : found_table c q tables (std.Some i) ≡ table_from 0 (catalog_at c q tables) (bytes_at c q a n)
      found = position-found p i e

      pub table-is : must_get_table (catalog_at c q tables) l (word_at c q a n) ≡ ok (table_named c q tables i a n)
      unfolding word_at found_table map_option
      table-is = M.table-found (catalog_at c q tables) l (word_at c q a n) (table_at c q tables i) (got (std.Some i) found)

      -- its scope
      pub table-scope : {s : Statement} {S : Scope} → TextsWithin c q (catalog_at c q tables) s
          → StatementName c q (word_at c q a n) → FromTable tables i a n S
          → (x : ℕ → Expr) → scope_of x c q S ≡ table_scope (table_named c q tables i a n)
      unfolding table_scope from_table named_by
      table-scope h w g x = found_scope h tables refl i (bytes_at c q a n) found g w x
