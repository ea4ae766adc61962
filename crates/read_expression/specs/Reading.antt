-- Reading a statement by position: where reading stands, and what a reader's answer says of the rules' reading.
use Rattle.std.specs.Prelude.{ℕ, ◌+◌, ◌*◌, ◌-◌, ◌≤◌, ◌≡◌, List, length, Result, Ok, Err}
use Rattle.std.proofs.lemmas.List.Edits.{sets}
use Rattle.rules.specs.Refusals.{statement, ok, refused}
use Rattle.rules.specs.Limits.{most_bytes, most_cells}
use Rattle.rules.specs.Lists.{Bytes}
use Rattle.rules.specs.Schema.{Value}
use Rattle.rules.specs.Ast.{Exprs, size_all}
use Rattle.rules.specs.Reader.{Place, Read}
use Rattle.text.specs.Reading.{place}
use Rattle.text.specs.Lines.{Fields}
use Rattle.text.specs.declared.Line.{Line}
use Rattle.numbers.specs.Values.{ValueFits}
use Rattle.ast.specs.Table.{row_size}
use Rattle.numbers.specs.declared.refusals.Refusal.{Refusal}
use Rattle.numbers.specs.Reasons.{told}
use Rattle.read_expression.specs.declared.reading.Cursor.{Cursor}
use Rattle.read_expression.specs.Encode.{is_numbers, row_of, encode_all}
use Rattle.read_expression.specs.Fits.{FitsAll}

-- position p of the statement t, on line l, behind c expression records and k FROM tables
abbrev pub here : Bytes → ℕ → ℕ → ℕ → ℕ → Place
here t p l c k = place statement t p l c k

-- the position lies in a text that is not too long, each line took a byte, and the rows so far are no more than there may be
pub record Position (t : Bytes) (p l c : ℕ) : Type 0 where
  pub short : length t ≤ most_bytes
  pub within : p ≤ length t
  pub line : l ≤ p + 1
  pub rows : c ≤ most_cells

-- f is the line at position p of a statement that is not too long
pub record LineAt (t : Bytes) (p : ℕ) (f : Line) : Type 0 where
  pub short : length t ≤ most_bytes
  pub within : p ≤ length t
  pub fields : Fields t p f

-- f is a line of such a statement
pub record IsLine (f : Line) : Type 0 where
  pub text : Bytes
  pub position : ℕ
  pub is : LineAt text position f

-- a reading that came to its end: what it read, which H holds of, and where the rest stands
pub record Took {A : Type 0} (m : Read A) (H : A → Type 0) (t : Bytes) (p l c k p' l' c' : ℕ) : Type 0 where
  pub value : A
  pub is : m (here t p l c k) ≡ ok (value, here t p' l' c' k)
  pub position : Position t p' l' c'
  pub moved : p ≤ p'
  pub more : c ≤ c'
  pub holds : H value

-- what an answer says of the reading m from a position on: what was read, which H holds of behind so many rows, or its refusal
unfoldable pub Given : {A : Type 0} (m : Read A) (H : ℕ → A → Type 0) (t : Bytes) (p l c k : ℕ) → Result Cursor Refusal → Type 0
Given m H t p l c k (Ok a) = Took m (H a.rows) t p l c k a.position a.line a.rows
Given m H t p l c k (Err w) = m (here t p l c k) ≡ refused (told statement w)

-- the rows from c to c' are those of these expressions, and nothing else was written
pub record Rows (t : Bytes) (c : ℕ) (cells cells' : List ℕ) (c' : ℕ) (es : Exprs) : Type 0 where
  pub written : cells' ≡ sets cells (row_size * c) (encode_all es)
  pub rows : c' ≡ c + size_all es
  pub fits : (b : Bytes) → FitsAll b t es

-- the row c of an `is` at line l, whose rows end before d, with the literal v
pub record IsRow (t : Bytes) (c d l : ℕ) (cells cells' : List ℕ) (d' : ℕ) (v : Value) : Type 0 where
  pub written : cells' ≡ sets cells (row_size * c) (row_of l (d - c) (is_numbers v))
  pub rows : d' ≡ d
  pub fits : (b : Bytes) → ValueFits b t v
