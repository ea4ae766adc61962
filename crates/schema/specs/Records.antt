-- What one line of the catalog says: a column's record, a table's, a default's.
use Rattle.std.specs.Prelude.{ℕ, zero, suc, ◌+◌, ◌≤◌, ◌<◌, ◌≡◌, Bool, true, false, List, [], ◌∷◌, length, get_or, Result, Ok, Err, Some, None}
use Rattle.std.specs.Prelude as std
use Rattle.std.proofs.Common.{arith, zero-add, ◌∙◌}
use Rattle.std.proofs.Math.Option.{Option, none, some}
use Rattle.rules.specs.Limits.{most_bytes}
use Rattle.rules.specs.Refusals.{catalog}
use Rattle.rules.specs.Lists.{Bytes}
use Rattle.rules.specs.Lines.{Word, bytes}
use Rattle.rules.specs.Schema.{Value, Datatype}
use Rattle.rules.specs.Reader.{Place, base_address, at, rest}
use Rattle.rules.specs.ReadColumn.{column_fields}
use Rattle.rules.specs.ReadCatalog.{table_fields}
use Rattle.rules.specs.Places.{bytes_at, word_at}
use Rattle.text.specs.declared.Line.{Line}
use Rattle.text.specs.Lines.{nth_field, Fields, line_end, field}
use Rattle.text.specs.Reading.{place, text_of, field-word, field-inside}
use Rattle.numbers.specs.Literals.{given_value}
use Rattle.numbers.specs.Datatypes.{type_of}
use Rattle.schema.specs.Layout.{table_start}
use Rattle.numbers.specs.declared.refusals.Reason.TheVariants.{WrongRecord}
use Rattle.numbers.specs.declared.refusals.Refusal as code
use Rattle.schema.specs.declared.record.ColumnRecord.{ColumnRecord}
use Rattle.schema.specs.declared.record.TableRecord.{TableRecord}
use Rattle.numbers.specs.declared.literals.Literal.{Literal}

-- p is a position in a text that is not too long
pub record Position (t : Bytes) (p : ℕ) : Type 0 where
  pub short : length t ≤ most_bytes
  pub within : p ≤ length t

-- reading stands at position p of the catalog, which is line l of it
abbrev pub here : Bytes → ℕ → ℕ → Place
here t p l = place catalog t p l 0 0

-- WHAT THE RECORDS SAY
-- the column's record here, if one is meant to stand here, and what it says if it fits
unfoldable pub column_here : Place → Option (Option (Word × Datatype × Bool))
column_here p = elim (at (bytes "column") p) [ true ↦ some (column_fields (rest p)) | false ↦ none ]

unfoldable pub column_said : Bytes → Bytes → Result (std.Option ColumnRecord) code.Refusal → Option (Option (Word × Datatype × Bool))
column_said c q (Ok (Some r)) = some (some (word_at c q r.name.address r.name.length, type_of r.datatype, r.nullable))
column_said c q (Ok None) = none
column_said c q (Err w) = some none

-- where the rest stands, or what is refused, at line l
unfoldable pub ColumnEnds : Bytes → ℕ → ℕ → Result (std.Option ColumnRecord) code.Refusal → Type 0
ColumnEnds t p l (Ok (Some r)) = r.next ≡ line_end t p
ColumnEnds t p l (Ok None) = Unit
ColumnEnds t p l (Err w) = w ≡ record { reason = WrongRecord; line = l }

pub record ColumnLine (t : Bytes) (p line : ℕ) (r : Result (std.Option ColumnRecord) code.Refusal) : Type 0 where
  pub says : (q : Bytes) (l : ℕ) → column_said t q r ≡ column_here (here t p l)
  pub next : ColumnEnds t p line r

-- the names of the first n tables, the last first
unfoldable pub names : Bytes → List ℕ → ℕ → List Bytes
names t s zero = []
names t s (suc n) = bytes_at t t (get_or s (table_start n) 0) (get_or s (table_start n + 1) 0) ∷ names t s n

-- the table's record here, if it is one and fits
unfoldable pub table_here : List Bytes → Place → Option (Word × ℕ)
table_here ns p = elim (at (bytes "table") p) [ true ↦ table_fields ns (rest p) | false ↦ none ]

unfoldable pub table_said : Bytes → Bytes → std.Option TableRecord → Option (Word × ℕ)
table_said c q (Some r) = some (word_at c q r.name.address r.name.length, r.key)
table_said c q None = none

unfoldable pub TableEnds : Bytes → ℕ → std.Option TableRecord → Type 0
TableEnds t p (Some r) = r.next ≡ line_end t p
TableEnds t p None = Unit

pub record TableLine (t : Bytes) (s : List ℕ) (n p : ℕ) (r : std.Option TableRecord) : Type 0 where
  pub says : (q : Bytes) (l : ℕ) → table_said t q r ≡ table_here (names t s n) (here t p l)
  pub next : TableEnds t p r

-- a default, or none
unfoldable pub default_said : Bytes → Bytes → std.Option (std.Option Literal) → Option (Option Value)
default_said c q (Some d) = some (given_value c q d)
default_said c q None = none

-- FIELDS
-- a field of the catalog is the word at its position
pub field-here : (t q : Bytes) (a n : ℕ) → a + n ≤ most_bytes → field (base_address catalog) t a n ≡ word_at t q a n
unfolding text_of base_address
field-here t q a n h = field-word catalog t q a n h ∙ rw (zero-add a)

-- a field's address and length are small
pub field-most : (t : Bytes) (p : ℕ) (f : Line) → Fields t p f → Position t p → (i : ℕ) → i < f.count → (nth_field f.fields i).start + (nth_field f.fields i).length ≤ most_bytes
field-most t p f g w i h = omega (arith, field-inside catalog t p 0 0 0 f g i w.within h, w.short)
