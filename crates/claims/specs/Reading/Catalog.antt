-- A catalog that is read keeps to the limits, and its defaults and names have what the fields of every line give.
use Prim.Native.Nat.{ℕ, zero, suc, ◌+◌, ◌≤◌, ◌<◌}
use native.Mathlib.Omega.{arith}
use Rattle.std.specs.Prelude.{Bool, ltb, length}
use mathlib.Core.List.{List, [], ◌∷◌}
use Rattle.std.proofs.Math.Option.{Option, none, some}
use Rattle.std.proofs.Common.{ltb-true}
use Rattle.rules.specs.Refusals.{catalog}
use Rattle.rules.specs.Limits.{most_tables, most_table_columns}
use Rattle.rules.specs.Lists.{Bytes, same, any}
use Rattle.rules.specs.Lines.{Word, bytes}
use Rattle.rules.specs.Schema.{Value, Datatype, Column, Table}
use Rattle.rules.specs.Reader.{Place, start, stop, line_here, next, at, one_of, name, count_field, no_field, two_fields, literals, record_within, turns}
use Rattle.rules.specs.ReadColumn.{column_fields}
use Rattle.rules.specs.ReadCatalog.{default_records, default_here, column_body, table_fields, key_fits, tables, read_catalog}
use Rattle.claims.specs.Answers.{Ensures, weaken, All, Given, all-weaken}
use Rattle.claims.specs.Cases.{either_way}
use Rattle.claims.specs.Lists.{given-weaken, given-map, given-mapped}
use Rattle.claims.specs.Reading.Rules.{reads-into, reads-test, reads-list, reads_fit, reads-within, reads-turns, reads-value}
use Rattle.claims.specs.Reading.Has.{ColumnHas, TableHas}
use Rattle.claims.specs.Reading.Fields.{Makes, given-kept}
use Rattle.claims.specs.Reading.Sound.{Sound, Gives, gives_then, gives-next, gives-give, gives-few, one_of-has, rest_has, any-line}
use Rattle.claims.specs.Reading.Records.{makes-name_and, makes-literals, makes-column_fields}

-- a table's key is one of its columns, and it has no more columns than the limit
abbrev pub LimitedTable : Table → Type 0
LimitedTable t = (t.key < length t.columns) × (length t.columns ≤ most_table_columns)

module _ {F : Word → Type 0} {Q : Value → Type 0} {N : Word → Type 0} {I : Place → Type 0} (s : Sound F Q N I) where
  -- a column's default
  makes-defaults : (es : List (Bytes × (List Word → Option Value))) → All (λ e. Makes F e.1 Q) es → All (λ e. Makes F e.1 (Given Q)) (default_records es)
  unfolding default_records All Given
  makes-defaults [] h = (λ r g. given-mapped _ (Given Q) (λ u. tt) (no_field r), tt)
  makes-defaults (e ∷ es) h = (λ r g. given-map some Q (Given Q) (λ v k. k) (e.1 r) (h.0 r g), makes-defaults es h.1)

  gives-default : Gives I default_here (Given Q)
  unfolding default_here
  gives-default p i = reads_fit (one_of (default_records literals) (line_here p)) p _ λ d e. (one_of-has s (Given Q) (default_records literals) (makes-defaults literals (makes-literals s)) p i d e, s.next p i)

  gives-column : (l : ℕ) (c : Word × Datatype × Bool) → N c.0 → Gives I (column_body l c) (ColumnHas Q N)
  unfolding column_body
  gives-column l c h = gives_then s default_here _ _ _ gives-default λ d g. gives-give s _ _ (h, g)

  makes-table : (ns : List Bytes) → Makes F (table_fields ns) (λ r. N r.0)
  unfolding table_fields Given
  makes-table ns r h = given-kept _ _ (two_fields name count_field r) (given-weaken _ _ (λ x g. g.0) (two_fields name count_field r) (makes-name_and s count_field r h))
      λ x g. either_way (Given _) (any (same x.0.bytes) ns) none (some x) tt g

  gives_key : (l k : ℕ) (cs : List Column) → Gives I (key_fits l k cs) (λ u. k < length cs)
  unfolding key_fits
  gives_key l k cs p i = reads-test (ltb k (length cs)) _ _ _ (λ b. (ltb-true k (length cs) b, i)) (λ b. tt)

  gives-tables : (n m : ℕ) (ns : List Bytes) → m ≤ most_tables → Gives I (tables n m ns) (λ ts. (m + length ts ≤ most_tables) × All (λ t. LimitedTable t × TableHas Q N t) ts)
  unfolding tables stop All
  gives-tables zero m ns b = gives-give s [] _ (omega arith, tt)
  gives-tables (suc n) m ns b = λ p i. reads-list p.left _ _ _ ((omega arith, tt), i) (reads-test (at (bytes "table") p) _ _ _
      (λ b. reads-into (record_within (table_fields ns) m most_tables) _ p _ (reads-within (table_fields ns) m most_tables p _ λ h g l.
      gives_then s _ _ _ _ (gives-few s (bytes "column") column_fields most_table_columns column_body _ _ (makes-column_fields s) gives-column) (λ cs k.
      gives-next s (key_fits p.line h.1 cs) _ _ _ (gives_key p.line h.1 cs) λ u f. gives_then s (tables n (suc m) (h.0.bytes ∷ ns)) _ _ _ (gives-tables n (suc m) (h.0.bytes ∷ ns) l) λ ts w.
      gives-give s _ _ (omega (arith, w.0), (((f, k.1), (rest_has s _ (table_fields ns) (makes-table ns) p i h g, k.0)), w.1))) (next p) (s.next p i)))
      (λ b. tt))

  both_hold : (c : Bytes) → I (start catalog c) → Ensures (read_catalog c) (λ ts. (length ts ≤ most_tables) × All (λ t. LimitedTable t × TableHas Q N t) ts)
  unfolding read_catalog
  both_hold c i = reads-value (turns (λ k. tables k 0 []) (start catalog c)) _
      (weaken (turns (λ k. tables k 0 []) (start catalog c)) _ _ (λ r g. (omega (arith, g.0.0), g.0.1)) (reads-turns _ _ (λ k. gives-tables k 0 [] (omega arith)) (start catalog c) i))

  -- the tables of an accepted catalog
  pub catalog-has : (c : Bytes) → I (start catalog c) → Ensures (read_catalog c) (All (TableHas Q N))
  catalog-has c i = weaken (read_catalog c) _ _ (λ ts h. all-weaken _ _ (λ t g. g.1) ts h.1) (both_hold c i)

-- A catalog that is read has no more tables than the limit, each within its own limits.
pub catalog-limited : (t : Bytes) → Ensures (read_catalog t) (λ ts. (length ts ≤ most_tables) × All LimitedTable ts)
catalog-limited t = weaken (read_catalog t) _ _ (λ ts h. (h.0, all-weaken _ _ (λ t g. g.0) ts h.1)) (both_hold any-line t tt)
