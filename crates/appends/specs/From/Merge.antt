-- Merging a FROM item's scope looks at its scope and line alone; a table found, and a scan laid.
use Rattle.std.specs.Prelude.{ℕ, ◌+◌, ◌≡◌, refl, false, [], ◌∷◌, ltb}
use Rattle.std.proofs.Common.{◌∙◌}
use Rattle.std.proofs.Math.Option.{Option, none, some}
use Rattle.rules.specs.Refusals.{Refusal, Answer, ok, refused, ◌>>◌, refuse, refuse_if, limit_passed}
use Rattle.rules.specs.Refusals.{duplicate_table, unknown_table}
use Rattle.rules.specs.Limits.{most_columns}
use Rattle.rules.specs.Lists.{or_else}
use Rattle.rules.specs.Lines.{Word}
use Rattle.rules.specs.Schema.{Catalog, Table, get_table, named_by, must_get_table}
use Rattle.rules.specs.Ast as Ast
use Rattle.rules.specs.Plan.{Built, Node}
use Rattle.rules.specs.Plan as P
use Rattle.rules.specs.Nodes.{scan}
use Rattle.rules.specs.Scope.{Scope, width, from_table, shares, merge}
use Rattle.rules.specs.BuildFrom.{merge_into, scan_of, build_from}
use Rattle.appends.specs.Answers.{bind_ok, bind-refused, refuse_if-passed}
use Rattle.appends.specs.Nodes.Kinds.{lays-table}
use Rattle.appends.specs.From.Laid.{source_of, SourceLaid}

-- MERGE
-- `merge_into`, of a scope t that comes from the record at line l
unfoldable pub merge_at : Scope → Scope → ℕ → Answer Scope
merge_at s t l = do
  refuse_if (shares s.tables t.tables) duplicate_table l
  refuse_if (ltb most_columns (width s + width t)) limit_passed l
  ok (merge s t)

pub merge-at : (s t : Scope) (n : Node Built) (l : ℕ) → merge_into s (source_of n t l) ≡ merge_at s t l
unfolding merge_into merge_at
merge-at s t n l = refl

module _ (s t : Scope) (l : ℕ) where
  pub merge_step : shares s.tables t.tables ≡ false → ltb most_columns (width s + width t) ≡ false
      → merge_at s t l ≡ ok (merge s t)
  unfolding merge_at
  merge_step e f = refuse_if-passed _ _ l _ e ∙ refuse_if-passed _ _ l _ f

-- TABLES
pub table-found : (c : Catalog) (l : ℕ) (w : Word) (t : Table) → get_table c w.bytes ≡ some t
    → must_get_table c l w ≡ ok (named_by w t)
unfolding must_get_table
table-found c l w t e = rw (e, must_get_table)

pub table-unknown : (c : Catalog) (l : ℕ) (w : Word) → get_table c w.bytes ≡ none
    → must_get_table c l w ≡ refuse unknown_table l
unfolding must_get_table
table-unknown c l w e = rw (e, must_get_table)

pub table_step : (c : Catalog) (l : ℕ) (w : Word) (a : Option Word) (t : Table) (i k : ℕ) → must_get_table c l w ≡ ok t
    → SourceLaid (build_from c (Ast.table l w a)) (from_table (or_else a t.name) t) l i k
    [] (scan t a none ∷ []) i (k + 1)
unfolding build_from scan_of
table_step c l w a t i k e = record { node = P.scan t a none; answer = bind_ok _ _ _ e; lays = lays-table i k t a }

pub table-refused : (c : Catalog) (l : ℕ) (w : Word) (a : Option Word) (r : Refusal) → must_get_table c l w ≡ refused r
    → build_from c (Ast.table l w a) ≡ refused r
unfolding build_from
table-refused c l w a r e = bind-refused _ _ r e
