-- Reading a text record by record: where reading stands, and the records and fields that all parts share.
use Rattle.std.specs.Prelude.{ℕ, zero, suc, ◌+◌, min, Bool, true, false, ◌&&◌, List, [], ◌∷◌, ltb, leb, length, drop}
use Rattle.std.proofs.Math.Option.{Option, none, some}
use Rattle.rules.specs.Refusals.{Text, catalog, statement, Reason, wrong_record, limit_passed, Answer, ok, refused}
use Rattle.rules.specs.Limits.{most_bytes, most_name_bytes, most_cells}
use Rattle.rules.specs.Lists.{Bytes, same, named, map_option}
use Rattle.rules.specs.Lines.{Word, Line, fields, line_size, bytes, decimal}
use Rattle.rules.specs.Lines as Lines
use Rattle.rules.specs.Schema.{Value, null, bool, int, float, text}

-- Where reading stands: the bytes left and the address of the first of them, the number of the line that starts there
-- (or is missing), and the expression records and FROM tables so far.
pub record Place : Type 0 where
  pub text : Text
  pub left : Bytes
  pub address : ℕ
  pub line : ℕ
  pub cells : ℕ
  pub tables : ℕ

-- the statement's bytes have the addresses behind those of the longest catalog
unfoldable pub base_address : Text → ℕ
base_address catalog = 0
base_address statement = most_bytes

unfoldable pub start : Text → Bytes → Place
start t b = record { text = t; left = b; address = base_address t; line = 1; cells = 0; tables = 0 }

-- what reading gives: the value and the place behind it
abbrev pub Read : Type 0 → Type 0
Read A = Place → Answer (A × Place)

unfoldable pub stop : {A : Type 0} → Reason → Read A
stop n p = refused (record { reason = n; text = p.text; line = p.line })

unfoldable pub give : {A : Type 0} → A → Read A
give a p = ok (a, p)

infixl 10 ◌>>=◌
unfoldable pub ◌>>=◌ : {A B : Type 0} → Read A → (A → Read B) → Read B
◌>>=◌ m f p = elim (m p) [ ok r ↦ f r.0 r.1 | refused r ↦ refused r ]

infixl 10 ◌>>◌
unfoldable pub ◌>>◌ : {A B : Type 0} → Read A → Read B → Read B
◌>>◌ m n p = elim (m p) [ ok r ↦ n r.1 | refused r ↦ refused r ]

-- the line that stands here; at the end of the text its first field is empty, as no keyword is
unfoldable pub line_here : Place → Line
line_here p = fields p.address p.left

unfoldable pub next : Place → Place
next p = record {
  text = p.text;
  left = drop (line_size p.left) p.left;
  address = p.address + line_size p.left;
  line = suc p.line;
  cells = p.cells;
  tables = p.tables;
}

-- the first field, which says what the record is meant to be
unfoldable pub key_of : Line → Bytes
key_of [] = []
key_of (k ∷ r) = k.bytes

unfoldable pub rest_of : Line → List Word
rest_of [] = []
rest_of (k ∷ r) = r

unfoldable pub key : Place → Bytes
key p = key_of (line_here p)

unfoldable pub rest : Place → List Word
rest p = rest_of (line_here p)

-- whether the record here is meant to be this one
unfoldable pub at : Bytes → Place → Bool
at k p = same (key p) k

unfoldable pub line_number : Read ℕ
line_number p = ok (p.line, p)

-- past the record that stands here, or 2 where it does not fit
unfoldable pub fit : {A : Type 0} → Option A → Read A
fit none p = stop wrong_record p
fit (some a) p = ok (a, next p)

-- the one record that may stand here
unfoldable pub record' : {A : Type 0} → Bytes → (List Word → Option A) → Read A
record' k f p = elim (at k p) [ true ↦ fit (f (rest p)) p | false ↦ stop wrong_record p ]

-- one of several records, by a table of keywords and what each makes of the other fields
unfoldable pub apply : {A : Type 0} → Option (List Word → Option A) → List Word → Option A
apply none r = none
apply (some f) r = f r

unfoldable pub one_of : {A : Type 0} → List (Bytes × (List Word → Option A)) → Line → Option A
one_of t l = apply (named t (key_of l)) (rest_of l)

-- FIELDS
-- a name: 1 to 64 bytes
unfoldable pub name : Word → Option Word
name w = elim (leb 1 (length w.bytes) && leb (length w.bytes) most_name_bytes) [ true ↦ some w | false ↦ none ]

-- one of some words
unfoldable pub word : {A : Type 0} → List (Bytes × A) → Word → Option A
word t w = named t w.bytes

-- A count or a position, a decimal of any length. Past 512 all are alike, since none can be met: no statement has as
-- many expression cells, and no table as many columns.
unfoldable pub count_field : Word → Option ℕ
count_field w = map_option (min (suc most_cells)) (decimal w.bytes)

unfoldable pub no_field : List Word → Option (Unit {0})
no_field [] = some tt
no_field (w ∷ r) = none

unfoldable pub one_field : {A : Type 0} → (Word → Option A) → List Word → Option A
one_field f [] = none
one_field f (w ∷ []) = f w
one_field f (w ∷ (v ∷ r)) = none

unfoldable pub both : {A B : Type 0} → Option A → Option B → Option (A × B)
both none b = none
both (some a) none = none
both (some a) (some b) = some (a, b)

unfoldable pub two_fields : {A B : Type 0} → (Word → Option A) → (Word → Option B) → List Word → Option (A × B)
two_fields f g [] = none
two_fields f g (w ∷ []) = none
two_fields f g (w ∷ (v ∷ [])) = both (f w) (g v)
two_fields f g (w ∷ (v ∷ (u ∷ r))) = none

-- a name that may be missing: an alias, a reference
unfoldable pub optional_name : List Word → Option (Option Word)
optional_name [] = some none
optional_name (w ∷ []) = map_option some (name w)
optional_name (w ∷ (v ∷ r)) = none

-- a name, and an alias or none
unfoldable pub name_alias : List Word → Option (Word × Option Word)
name_alias [] = none
name_alias (w ∷ r) = both (name w) (optional_name r)

-- LITERALS
unfoldable pub flags : List (Bytes × Bool)
flags = (bytes "t", true) ∷ (bytes "f", false) ∷ []

-- only a text's field may be empty
unfoldable pub literals : List (Bytes × (List Word → Option Value))
literals =
    (bytes "null", λ r. map_option (λ u. null) (no_field r))
    ∷ (bytes "bool", one_field (λ w. map_option bool (word flags w)))
    ∷ (bytes "int", one_field (λ w. map_option int (Lines.integer w.bytes)))
    ∷ (bytes "float", one_field (λ w. map_option float (Lines.float w.bytes)))
    ∷ (bytes "text", one_field (λ w. some (text w)))
    ∷ []

unfoldable pub literal_here : Read Value
literal_here p = fit (one_of literals (line_here p)) p

-- RUNS OF RECORDS
unfoldable pub optional : {A : Type 0} → Bool → Read A → Read (Option A)
optional true m = do
  a ← m
  give (some a)
optional false m = give none

-- A record after n of its kind: its line and what its fields say. 2 where they do not fit, then 3 past the limit.
unfoldable pub record_within : {H : Type 0} → (List Word → Option H) → ℕ → ℕ → Read (ℕ × H)
record_within f n most p = elim (f (rest p)) [
  | none ↦ stop wrong_record p
  | some h ↦ elim (ltb n most) [ false ↦ stop limit_passed p | true ↦ ok ((p.line, h), next p) ]
]

-- the records of a kind that stand here, n before them, each with what follows it
module _ {H A : Type 0} (k : Bytes) (f : List Word → Option H) (most : ℕ) (body : ℕ → H → Read A) where
  unfoldable pub many : ℕ → ℕ → Read (List A)
  many zero n = give []
  many (suc fuel) n = λ p. elim (at k p) [
    | false ↦ ok ([], p)
    | true ↦ (do
      h ← record_within f n most
      a ← body h.0 h.1
      as' ← many fuel (suc n)
      give (a ∷ as')) p
  ]

-- every turn takes a line, so the bytes left are enough turns
unfoldable pub turns : {A : Type 0} → (ℕ → Read A) → Read A
turns f p = f (suc (length p.left)) p

unfoldable pub at_least_one : {A : Type 0} → Bytes → Read (List A) → Read (List A)
at_least_one k m p = elim (at k p) [ true ↦ m p | false ↦ stop wrong_record p ]

-- the end of the text
unfoldable pub nothing_left : Read (Unit {0})
nothing_left p = elim p.left [ [] ↦ ok (tt, p) | x ∷ xs ↦ stop wrong_record p ]

-- the value of a whole text
unfoldable pub value_of : {A : Type 0} → Answer (A × Place) → Answer A
value_of (ok r) = ok r.0
value_of (refused r) = refused r
