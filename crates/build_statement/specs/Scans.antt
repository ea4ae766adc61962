-- The one scan of a DELETE or an UPDATE, its filter's cells the first of the plan.
use Rattle.std.specs.Prelude.{ℕ, ◌+◌, ◌*◌, ◌-◌, ◌≤◌, ◌≡◌, List, [], ◌∷◌, length, SomeIff, Some, None}
use Rattle.std.specs.Prelude as std
use Rattle.std.proofs.Common.{arith}
use Rattle.std.proofs.Math.Path.{refl}
use Rattle.std.proofs.Math.Option.{Option, none}
use Rattle.rules.specs.Lists.{Bytes}
use Rattle.rules.specs.Lines.{Word}
use Rattle.rules.specs.Places.{bytes_at}
use Rattle.rules.specs.Schema.{Table, named_by}
use Rattle.rules.specs.Limits.{most_cells, least_area}
use Rattle.rules.specs.Nodes.{scan}
use Rattle.rules.specs.Area.{span, option_span, sized, record_numbers}
use Rattle.rules.specs.Sizes.{clause_size}
use Rattle.appends.specs.Area.{records_numbers}
use Rattle.sections.specs.Layout.{section_at}
use Rattle.sections.specs.Access.{where_kind}
use Rattle.sections.specs.Expressions.{outside_row}
use Rattle.statement.specs.Layout.{to_clause}
use Rattle.statement.specs.EntryAccess.{clause_at, clause_of, clause-is}
use Rattle.statement.specs.declared.access.Clause.{Clause}
use Rattle.text.specs.declared.places.Place.{Place}
use Rattle.plan.specs.Layout.{scan_size}
use Rattle.plan.specs.Pushed.{Kept, Pushed}
use Rattle.plan.specs.Places.{place_numbers}
use Rattle.plan.specs.declared.nodes.Nodes.{Nodes}
use Rattle.plan.specs.Records.{records-first}
use Rattle.plan.specs.Cells.{Room}
use Rattle.build_statement.specs.Ends.{span-at}
use Rattle.build_statement.specs.Tables.{table_named}

-- what is pushed for a scan of a table whose name is at the place p, its filter's root x
abbrev pub Scanned : Place → Option ℕ → Nodes → Nodes → Type 0
Scanned p x s t = (b : Table) (w : Option Word) → span b.name ≡ place_numbers p → option_span w ≡ 0 ∷ 0 ∷ []
    → Pushed (record_numbers (scan b w x)) s t

module _ (c q : Bytes) (tables : List ℕ) (i a n : ℕ) (x : Option ℕ) {p : Place} {s t : Nodes} (ha : p.address ≡ a)
    (hl : p.length ≡ length (bytes_at c q a n)) (h : Scanned p x s t) where
  pub scan-record : Pushed (records_numbers (scan (table_named c q tables i a n) none x ∷ [])) s t
  unfolding named_by option_span
  scan-record = records-first _ (h (table_named c q tables i a n) none (span-at c q a n ha hl) refl)

  pub scan-in-use : t.used ≡ s.used + scan_size
  unfolding record_numbers sized span option_span named_by
  scan-in-use = (h (table_named c q tables i a n) none (span-at c q a n ha hl) refl).appended.next

  pub scan-kept : Kept s t
  scan-kept = scan-record.kept

-- THE FILTER'S ROOM, from its clause as it was read
module _ (c q : Bytes) (cells parts : List ℕ) {w : std.Option Clause} (hw : w ≡ clause_at parts where_kind)
    (s : length cells ≤ outside_row) where
  pub where-is : to_clause (section_at c q cells parts where_kind) ≡ clause_of c q cells w
  where-is = clause-is parts where_kind c q cells s w hw

  pub where-room : {area : List ℕ} → least_area ≤ length area
      → clause_size (to_clause (section_at c q cells parts where_kind)) ≤ most_cells
      → Room 0 (3 * clause_size (clause_of c q cells w)) area
  where-room f few =
      let m : clause_size (clause_of c q cells w) ≤ most_cells = rw where-is at few in
      record { counted = omega (arith, m); held = omega (arith, m, f) }
