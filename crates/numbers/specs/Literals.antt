-- Literals of the code: their kinds by number, and what a kind and two numbers stand for.
use Rattle.std.specs.Prelude.{ℕ, ◌^◌, ◌<◌, ◌≡◌, ◌⊎◌, refl, List, [], ◌∷◌, length}
use Rattle.std.proofs.Common.{arith, sym, ap, ◌∙◌, inl, inr}
use Rattle.std.proofs.Math.Option.{Option, none, some}
use Rattle.std.specs.Prelude as std
use Rattle.rules.specs.Lists.{Bytes}
use Rattle.rules.specs.Places.{bytes_at, word_at}
use Rattle.rules.specs.Schema.{Value, null, bool, int, float, text}
use Rattle.rules.specs.Area.{flag, span, value_numbers}
use Rattle.numbers.specs.Bits.{joined, signed, halves-joined, joined_small, bits-signed}
use Rattle.numbers.specs.Codes.{coded, coded-map}
use Rattle.numbers.specs.Values.{is_one, value_at, default_of, default-some}
use Rattle.numbers.specs.declared.literals.LiteralKind.{LiteralKind}
use Rattle.numbers.specs.declared.literals.LiteralKind.TheVariants as L
use Rattle.numbers.specs.declared.literals.Literal.{Literal}

unfoldable pub kind_number : LiteralKind → ℕ
kind_number L.Null = 1
kind_number L.Bool = 2
kind_number L.Int = 3
kind_number L.Float = 4
kind_number L.Text = 5

-- and back; a null's where the number is none
unfoldable pub kind_at : ℕ → LiteralKind
kind_at k = coded L.Null (L.Null ∷ L.Bool ∷ L.Int ∷ L.Float ∷ L.Text ∷ []) 1 k

pub kind-back : (l : LiteralKind) → kind_at (kind_number l) ≡ l
unfolding kind_at kind_number coded
kind-back L.Null = refl
kind-back L.Bool = refl
kind-back L.Int = refl
kind-back L.Float = refl
kind-back L.Text = refl

-- what a kind and two numbers stand for, over the catalog c and the statement q
unfoldable pub literal_of : LiteralKind → Bytes → Bytes → ℕ → ℕ → Value
literal_of L.Null c q a b = null
literal_of L.Bool c q a b = bool (is_one a)
literal_of L.Int c q a b = int (signed (joined a b))
literal_of L.Float c q a b = float (joined a b)
literal_of L.Text c q a b = text (word_at c q a b)

abbrev pub literal_value : Bytes → Bytes → Literal → Value
literal_value c q l = literal_of l.kind c q l.first l.second

-- the literal of three numbers
abbrev pub numbered : ℕ → ℕ → ℕ → Literal
numbered k a b = record { kind = kind_at k; first = a; second = b }

-- its four numbers, and those of one that may be missing
abbrev pub literal_numbers : Literal → List ℕ
literal_numbers l = kind_number l.kind ∷ l.first ∷ l.second ∷ 0 ∷ []

unfoldable pub given_numbers : std.Option Literal → List ℕ
given_numbers std.None = 0 ∷ 0 ∷ 0 ∷ 0 ∷ []
given_numbers (std.Some l) = literal_numbers l

unfoldable pub given_value : Bytes → Bytes → std.Option Literal → Option Value
given_value c q std.None = none
given_value c q (std.Some l) = some (literal_value c q l)

module _ (c q : Bytes) where
  pub numbered-value : (k a b : ℕ) → value_at c q k a b ≡ literal_value c q (numbered k a b)
  unfolding value_at kind_at literal_of
  numbered-value k a b = sym (coded-map (λ (l : LiteralKind). literal_of l c q a b) _ _ 1 k)

  pub literal-back : (l : Literal) → value_at c q (kind_number l.kind) l.first l.second ≡ literal_value c q l
  literal-back l = numbered-value (kind_number l.kind) l.first l.second
      ∙ ap (λ (k : LiteralKind). literal_of k c q l.first l.second) (kind-back l.kind)

  -- the numbers of the cell that a literal of two numbers of 32 bits becomes
  module _ (a b : ℕ) where
    unfoldable pub cell_of : LiteralKind → List ℕ
    cell_of L.Null = 1 ∷ 0 ∷ 0 ∷ 0 ∷ []
    cell_of L.Bool = 2 ∷ flag (is_one a) ∷ 0 ∷ 0 ∷ []
    cell_of L.Int = 3 ∷ a ∷ b ∷ 0 ∷ []
    cell_of L.Float = 4 ∷ a ∷ b ∷ 0 ∷ []
    cell_of L.Text = 5 ∷ a ∷ length (bytes_at c q a b) ∷ 0 ∷ []

    pub literal-cell : (l : LiteralKind) → a < 2 ^ 32 → b < 2 ^ 32 → value_numbers (literal_of l c q a b) ≡ cell_of l
    unfolding literal_of cell_of value_numbers span word_at
    literal-cell L.Null h g = refl
    literal-cell L.Bool h g = refl
    literal-cell L.Int h g = rw (bits-signed (joined a b) (joined_small a b h g), halves-joined a b h)
    literal-cell L.Float h g = rw (halves-joined a b h)
    literal-cell L.Text h g = refl

    pub numbers-kept : (l : LiteralKind) → (l ≡ L.Int) ⊎ (l ≡ L.Float) → cell_of l ≡ kind_number l ∷ a ∷ b ∷ 0 ∷ []
    unfolding cell_of kind_number
    numbers-kept l (inl e) = rw e
    numbers-kept l (inr e) = rw e

-- LITERALS THAT MAY BE MISSING
-- the numbers of one are four, and stand for it
pub record Given (m : std.Option Literal) : Type 0 where
  pub kind : ℕ
  pub first : ℕ
  pub second : ℕ
  pub is : given_numbers m ≡ kind ∷ first ∷ second ∷ 0 ∷ []
  pub value : (c q : Bytes) → default_of c q kind first second ≡ given_value c q m

some-number : (k : LiteralKind) → kind_number k ≡ 0 → ⊥
unfolding kind_number
some-number k e = grind arith

pub given : (m : std.Option Literal) → Given m
unfolding given_numbers given_value default_of
given std.None = record { kind = 0; first = 0; second = 0; is = refl; value = λ c q. refl }
given (std.Some l) = record {
  kind = kind_number l.kind;
  first = l.first;
  second = l.second;
  is = refl;
  value = λ c q. default-some c q _ _ _ (some-number l.kind) ∙ ap some (literal-back c q l);
}

-- one that was read by its numbers
module _ (c q : Bytes) (k a b : ℕ) where
  pub given-none : k ≡ 0 → given_value c q std.None ≡ default_of c q k a b
  unfolding given_value default_of
  given-none e = rw e

  pub given-some : (k ≡ 0 → ⊥) → given_value c q (std.Some (numbered k a b)) ≡ default_of c q k a b
  unfolding given_value
  given-some h = sym (default-some c q k a b h ∙ ap some (numbered-value c q k a b))
