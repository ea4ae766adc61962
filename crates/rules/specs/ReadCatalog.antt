-- The catalog from its text ("Catalog: `table`, name, key position; ..").
use Rattle.std.specs.Prelude.{ℕ, zero, suc, Bool, true, false, List, [], ◌∷◌, ltb, length}
use Rattle.std.proofs.Math.Option.{Option, none, some}
use Rattle.rules.specs.Refusals.{catalog, wrong_record, Answer, ok, refused}
use Rattle.rules.specs.Limits.{most_tables, most_table_columns}
use Rattle.rules.specs.Lists.{Bytes, same, any, map_option}
use Rattle.rules.specs.Lines.{Word, bytes}
use Rattle.rules.specs.Schema.{Value, Datatype, Column, Table, Catalog}
use Rattle.rules.specs.Reader.{Read, start, give, ◌>>=◌, ◌>>◌, stop, line_here, at, fit, one_of}
use Rattle.rules.specs.Reader.{name, count_field, no_field, two_fields, literals, record_within, many, turns, value_of}
use Rattle.rules.specs.ReadColumn.{column_fields}

-- a column's default: a literal record or `nodefault`
unfoldable pub default_records :
    List (Bytes × (List Word → Option Value)) → List (Bytes × (List Word → Option (Option Value)))
default_records [] = (bytes "nodefault", λ r. map_option (λ u. none) (no_field r)) ∷ []
default_records (e ∷ es) = (e.0, λ r. map_option some (e.1 r)) ∷ default_records es

unfoldable pub default_here : Read (Option Value)
default_here p = fit (one_of (default_records literals) (line_here p)) p

unfoldable pub column_body : ℕ → (Word × Datatype × Bool) → Read Column
column_body l c = do
  d ← default_here
  give (record { name = c.0; type = c.1; nullable = c.2; default = d })

-- a table's name, which no earlier table has, and its key position
unfoldable pub table_fields : List Bytes → List Word → Option (Word × ℕ)
table_fields ns r = elim (two_fields name count_field r) [
  | none ↦ none
  | some q ↦ elim (any (same q.0.bytes) ns) [ true ↦ none | false ↦ some q ]
]

-- the key position is below the column count, else 2 at the `table`, whose line is l
unfoldable pub key_fits : ℕ → ℕ → List Column → Read (Unit {0})
key_fits l k cs p = elim (ltb k (length cs)) [
  | true ↦ ok (tt, p)
  | false ↦ refused (record { reason = wrong_record; text = p.text; line = l })
]

-- the tables that stand here, behind n of them and their names
unfoldable pub tables : ℕ → ℕ → List Bytes → Read (List Table)
tables zero n ns = give []
tables (suc fuel) n ns = λ p. elim p.left [
  | [] ↦ ok ([], p)
  | x ∷ xs ↦ elim (at (bytes "table") p) [
    | false ↦ stop wrong_record p
    | true ↦ (do
      h ← record_within (table_fields ns) n most_tables
      cs ← turns λ k. many (bytes "column") column_fields most_table_columns column_body k 0
      key_fits h.0 h.1.1 cs
      ts ← tables fuel (suc n) (h.1.0.bytes ∷ ns)
      give (record { name = h.1.0; key = h.1.1; columns = cs } ∷ ts)) p
  ]
]

unfoldable pub read_catalog : Bytes → Answer Catalog
read_catalog t = value_of (turns (λ k. tables k 0 []) (start catalog t))
