-- The line texts: fields, decimals, hexadecimal.
use Rattle.std.specs.Prelude.{ℕ, zero, suc, ◌+◌, ◌*◌, ◌-◌, true, false, ◌&&◌, List, [], ◌∷◌, eqb, leb, length, ℤ, pos, negsuc}
use Prim.Native.String.{String}
use Prim.Native.String as S
use Prim.Native.Char.{code}
use Rattle.std.proofs.Math.Option.{Option, none, some}
use Rattle.rules.specs.Lists.{Bytes, map_option}

-- the bytes of a quoted text in ASCII
unfoldable pub bytes : String → Bytes
bytes s = elim s [ S.[] ↦ [] | S.◌∷◌ c (r → h) ↦ code c ∷ h ]

-- A field: its bytes, and the address of the first of them. The catalog's bytes have the addresses from 0 on, the
-- statement's those from 65,536 on.
pub record Word : Type 0 where
  pub bytes : Bytes
  pub start : ℕ

-- x, which stands at o, put before the first field
unfoldable pub onto : ℕ → ℕ → List Word → List Word
onto o x [] = record { bytes = x ∷ []; start = o } ∷ []
onto o x (p ∷ ps) = record { bytes = x ∷ p.bytes; start = o } ∷ ps

unfoldable pub empty : ℕ → Word
empty o = record { bytes = []; start = o }

-- A line is its fields.
abbrev pub Line : Type 0
Line = List Word

-- The fields of the line that a text starts with, its first byte at o. A tab ends a field, an LF the line. Where the
-- text ends first the record is wrong: two empty fields behind the last, which no record has.
unfoldable pub fields : ℕ → Bytes → Line
fields o [] = empty o ∷ empty o ∷ empty o ∷ []
fields o (x ∷ xs) = elim (eqb x 10) [
  | true ↦ empty o ∷ []
  | false ↦ elim (eqb x 9) [ true ↦ empty o ∷ fields (suc o) xs | false ↦ onto o x (fields (suc o) xs) ]
]

-- how many bytes that line has, its LF among them
unfoldable pub line_size : Bytes → ℕ
line_size [] = 0
line_size (x ∷ xs) = elim (eqb x 10) [ true ↦ 1 | false ↦ suc (line_size xs) ]

-- a digit's value
unfoldable pub digit : ℕ → Option ℕ
digit x = elim (leb 48 x && leb x 57) [ true ↦ some (x - 48) | false ↦ none ]

unfoldable pub digits : ℕ → Bytes → Option ℕ
digits n [] = some n
digits n (x ∷ xs) = elim (digit x) [ none ↦ none | some d ↦ digits (n * 10 + d) xs ]

-- a decimal with no sign and no needless zero in front, of any length
unfoldable pub decimal : Bytes → Option ℕ
decimal [] = none
decimal (x ∷ []) = digit x
decimal (x ∷ (y ∷ r)) = elim (eqb x 48) [ true ↦ none | false ↦ digits 0 (x ∷ (y ∷ r)) ]

-- a number within a bound
unfoldable pub within : ℕ → Option ℕ → Option ℕ
within b none = none
within b (some n) = elim (leb n b) [ true ↦ some n | false ↦ none ]

-- `-0` is no shortest decimal
unfoldable pub negated : Option ℕ → Option ℤ
negated none = none
negated (some zero) = none
negated (some (suc n)) = some (negsuc n)

-- shortest signed decimal within 64 bits
unfoldable pub integer : Bytes → Option ℤ
integer [] = none
integer (x ∷ xs) = elim (eqb x 45) [
  | true ↦ negated (within 9223372036854775808 (decimal xs))
  | false ↦ map_option pos (within 9223372036854775807 (decimal (x ∷ xs)))
]

unfoldable pub hex_digit : ℕ → Option ℕ
hex_digit x = elim (leb 97 x && leb x 102) [ true ↦ some (x - 87) | false ↦ digit x ]

unfoldable pub hex_digits : ℕ → Bytes → Option ℕ
hex_digits n [] = some n
hex_digits n (x ∷ xs) = elim (hex_digit x) [ none ↦ none | some d ↦ hex_digits (n * 16 + d) xs ]

-- 16 lower-case hexadecimal digits
unfoldable pub float : Bytes → Option ℕ
float b = elim (eqb (length b) 16) [ true ↦ hex_digits 0 b | false ↦ none ]
