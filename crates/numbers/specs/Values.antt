-- What stands as numbers, read back: a flag, a type, a literal, a default; and that each is the inverse of the rules' numbers
-- (crate rules, Area).
use Rattle.std.specs.Prelude.{ℕ, zero, suc, ◌/◌, ◌%◌, ◌^◌, ◌≡◌, Bool, true, false, eqb, length}
use Rattle.std.proofs.Common.{arith, sym, ap, ◌∙◌}
use Rattle.std.proofs.Math.Path.{refl}
use mathlib.Core.List.{[], ◌∷◌}
use Rattle.std.proofs.Math.Option.{Option, none, some}
use Rattle.rules.specs.Lists.{Bytes}
use Rattle.rules.specs.Lines.{Word}
use Rattle.rules.specs.Places.{word_at}
use Rattle.rules.specs.Schema.{Value, null, bool, int, float, text, Datatype, boolean, integer, floating, string}
use Rattle.rules.specs.Area.{halves, bits, flag, span, value_numbers, type_code, default_numbers}
use Rattle.numbers.specs.Bits.{joined, signed, joined-halves}
use Rattle.numbers.specs.Codes.{coded}

-- a flag
unfoldable pub is_one : ℕ → Bool
is_one n = eqb n 1

pub flag-back : (b : Bool) → is_one (flag b) ≡ b
unfolding is_one flag
flag-back true = refl
flag-back false = refl

-- a type
unfoldable pub type_at : ℕ → Datatype
type_at k = coded string (boolean ∷ integer ∷ floating ∷ string ∷ []) 1 k

pub type-back : (d : Datatype) → type_at (type_code d) ≡ d
unfolding type_at type_code coded
type-back boolean = refl
type-back integer = refl
type-back floating = refl
type-back string = refl

-- LITERALS
-- a literal by its kind (1 null, 2 bool, 3 int, 4 float, 5 text) and two numbers, of the catalog c and the statement q: a flag, 64
-- bits (low half first), or an address and a length
unfoldable pub value_at : Bytes → Bytes → ℕ → ℕ → ℕ → Value
value_at c q k a b = coded null (null ∷ bool (is_one a) ∷ int (signed (joined a b)) ∷ float (joined a b) ∷ text (word_at c q a b) ∷ []) 1 k

-- a default: a literal, or none where the kind is 0
unfoldable pub default_of : Bytes → Bytes → ℕ → ℕ → ℕ → Option Value
default_of c q zero a b = none
default_of c q (suc k) a b = some (value_at c q (suc k) a b)

-- a word is the one at its place in the catalog c or the statement q
unfoldable pub WordFits : Bytes → Bytes → Word → Type 0
WordFits c q w = word_at c q w.start (length w.bytes) ≡ w

-- two numbers can hold a literal: its integer has 64 bits, its text stands in the catalog or the statement
unfoldable pub ValueFits : Bytes → Bytes → Value → Type 0
ValueFits c q null = Unit {0}
ValueFits c q (bool b) = Unit {0}
ValueFits c q (int z) = signed (bits z) ≡ z
ValueFits c q (float b) = Unit {0}
ValueFits c q (text w) = WordFits c q w

-- then it is read back from its numbers
pub value-back : (c q : Bytes) (v : Value) (k a b : ℕ) → ValueFits c q v → value_numbers v ≡ k ∷ a ∷ b ∷ 0 ∷ [] → value_at c q k a b ≡ v
unfolding value_numbers halves span value_at coded ValueFits WordFits
value-back c q null k a b f e = let h : k ≡ 1 = cc in rw h
value-back c q (bool x) k a b f e = let h : k ≡ 2 = cc in let g : a ≡ flag x = cc in rw (h, g, flag-back x)
value-back c q (int z) k a b f e =
    let h : k ≡ 3 = cc in
    let g : a ≡ bits z % 2 ^ 32 = cc in
    let j : b ≡ bits z / 2 ^ 32 = cc in
    rw (h, g, j, joined-halves (bits z), f)
value-back c q (float n) k a b f e =
    let h : k ≡ 4 = cc in
    let g : a ≡ n % 2 ^ 32 = cc in
    let j : b ≡ n / 2 ^ 32 = cc in
    rw (h, g, j, joined-halves n)
value-back c q (text w) k a b f e =
    let h : k ≡ 5 = cc in
    let g : a ≡ w.start = cc in
    let j : b ≡ length w.bytes = cc in
    rw (h, g, j) (ap text f)

-- a literal's numbers are four, its kind some other than 0 and the last 0
pub record LiteralNumbers (v : Value) : Type 0 where
  pub kind : ℕ
  pub first : ℕ
  pub second : ℕ
  pub is : value_numbers v ≡ kind ∷ first ∷ second ∷ 0 ∷ []
  pub present : kind ≡ 0 → ⊥

pub literal-numbers : (v : Value) → LiteralNumbers v
unfolding value_numbers halves span
literal-numbers null = record { kind = 1; first = 0; second = 0; is = refl; present = λ z. omega arith }
literal-numbers (bool b) = record { kind = 2; first = flag b; second = 0; is = refl; present = λ z. omega arith }
literal-numbers (int z) = record { kind = 3; first = bits z % 2 ^ 32; second = bits z / 2 ^ 32; is = refl; present = λ z. omega arith }
literal-numbers (float b) = record { kind = 4; first = b % 2 ^ 32; second = b / 2 ^ 32; is = refl; present = λ z. omega arith }
literal-numbers (text w) = record { kind = 5; first = w.start; second = length w.bytes; is = refl; present = λ z. omega arith }

-- DEFAULTS
unfoldable pub LiteralFits : Bytes → Bytes → Option Value → Type 0
LiteralFits c q none = Unit {0}
LiteralFits c q (some v) = ValueFits c q v

pub default-some : (c q : Bytes) (k a b : ℕ) → (k ≡ 0 → ⊥) → default_of c q k a b ≡ some (value_at c q k a b)
unfolding default_of
default-some c q zero a b h = absurd (h refl)
default-some c q (suc k) a b h = refl

pub default-back : (c q : Bytes) (v : Option Value) (k a b : ℕ) → LiteralFits c q v → default_numbers v ≡ k ∷ a ∷ b ∷ 0 ∷ [] → default_of c q k a b ≡ v
unfolding default_numbers LiteralFits default_of
default-back c q none k a b f e = let h : k ≡ 0 = cc in rw h
default-back c q (some v) k a b f e =
    let w = literal-numbers v in
    let h : k ≡ w.kind = cc w.is in
    default-some c q k a b (λ z. w.present (sym h ∙ z)) ∙ ap some (value-back c q v k a b f e)
