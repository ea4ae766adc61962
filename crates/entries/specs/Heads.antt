-- What was read of an entry's record: the contract of reading one, and the numbers that it becomes.
use Rattle.std.specs.Prelude.{ℕ, suc, ◌-◌, ◌≤◌, ◌≡◌, true, false, List, [], ◌∷◌, ◌++◌, take, drop, Result, Ok, Err, Some, None}
use Rattle.std.specs.Prelude as std
use Rattle.std.proofs.Math.Option.{Option, none, some}
use Rattle.rules.specs.Limits.{most_bytes, most_cells}
use Rattle.rules.specs.Lists.{Bytes}
use Rattle.rules.specs.Reader.{Place, at, rest}
use Rattle.rules.specs.Area.{flag, option_span, type_code}
use Rattle.numbers.specs.Options.{option_of}
use Rattle.numbers.specs.Datatypes.{type_of}
use Rattle.text.specs.Places.{option_numbers}
use Rattle.text.specs.declared.places.Place as places
use Rattle.ast.specs.Names.{NameFits}
use Rattle.entries.specs.Entries.{EntryHead, keyword_of, null_number, fields_of, name_of}
use Rattle.entries.specs.declared.Head.{Head}
use Rattle.entries.specs.declared.Words.{Words}
use Rattle.entries.specs.declared.Words.TheVariants as W
use Rattle.numbers.specs.declared.refusals.Reason.TheVariants.{WrongRecord}
use Rattle.numbers.specs.declared.refusals.Refusal as code

-- the numbers of an entry behind its line, the number of its expressions and their first row
unfoldable pub head_numbers : EntryHead → List ℕ
head_numbers h = option_span h.name ++ (h.code ∷ h.key ∷ h.nullable ∷ h.unique ∷ h.index ∷ option_span h.reference)

-- the name of the entry before, by its place
unfoldable pub last_name : Bytes → std.Option places.Place → Option Bytes
last_name t None = none
last_name t (Some p) = some (take p.length (drop (p.address - most_bytes) t))

-- the numbers of what a record says beside its name: code, key, nullable, unique, index, reference
unfoldable pub words_numbers : std.Option Words → List ℕ
words_numbers None = 0 ∷ 0 ∷ 0 ∷ 0 ∷ 0 ∷ 0 ∷ 0 ∷ []
words_numbers (Some (W.Descends d)) = flag d ∷ 0 ∷ 0 ∷ 0 ∷ 0 ∷ 0 ∷ 0 ∷ []
words_numbers (Some (W.Column c)) =
    type_code (type_of c.datatype) ∷ flag c.key ∷ null_number (option_of c.nullable) ∷ flag c.unique ∷ flag c.index ∷ option_numbers c.reference

abbrev pub numbers_of : Head → List ℕ
numbers_of r = option_numbers r.name ++ words_numbers r.words

-- a record that says this
abbrev pub saying : ℕ → std.Option places.Place → std.Option Words → Head
saying e n w = record { expressions = e; name = n; words = w }

-- a record of this kind, which stands here behind an entry named b
pub record Entered (t : Bytes) (kind : ℕ) (b : Option Bytes) (p : Place) (r : Head) : Type 0 where
  pub head : EntryHead
  pub stands : at (keyword_of kind) p ≡ true
  pub is : fields_of kind b (rest p) ≡ some head
  pub numbers : head_numbers head ≡ numbers_of r
  pub expressions : r.expressions ≡ head.expressions
  pub few : r.expressions ≤ suc most_cells
  pub named : (c : Bytes) → NameFits c t head.name
  pub refers : (c : Bytes) → NameFits c t head.reference
  pub last : last_name t r.name ≡ name_of head

-- no such record stands here; or its fields do not fit, and this line is wrong; or it says this
pub record IsHead (t : Bytes) (kind : ℕ) (b : Option Bytes) (line : ℕ) (p : Place) (r : Result (std.Option Head) code.Refusal) : Type 0 where
  pub missing : r ≡ Ok None → at (keyword_of kind) p ≡ false
  pub wrong : (w : code.Refusal) → r ≡ Err w → (w ≡ record { reason = WrongRecord; line = line }) × (at (keyword_of kind) p ≡ true) × (fields_of kind b (rest p) ≡ none)
  pub entered : (x : Head) → r ≡ Ok (Some x) → Entered t kind b p x
