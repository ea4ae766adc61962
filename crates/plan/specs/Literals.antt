-- The cells of `is` with a literal: a NaN's bits are kept.
use Rattle.std.specs.Prelude.{ℕ, ◌^◌, ◌<◌, ◌≡◌, refl, [], ◌∷◌}
use Rattle.rules.specs.Lists.{Bytes}
use Rattle.rules.specs.Schema.{float}
use Rattle.rules.specs.Cells.{is}
use Rattle.rules.specs.Area.{is_numbers, cell_numbers}
use Rattle.numbers.specs.Bits.{joined, halves-joined}
use Rattle.numbers.specs.Literals.{literal_of}
use Rattle.numbers.specs.declared.literals.LiteralKind.{LiteralKind}
use Rattle.numbers.specs.declared.literals.LiteralKind.TheVariants as L

pub is-nan-numbers : (x a b : ℕ) → a < 2 ^ 32 → cell_numbers (is x (float (joined a b))) ≡ 15 ∷ x ∷ a ∷ b ∷ []
unfolding cell_numbers is_numbers
is-nan-numbers x a b h = rw (halves-joined a b h)

pub is-null-numbers : (x : ℕ) (c q : Bytes) (a b : ℕ) (l : LiteralKind) → (l ≡ L.Float → ⊥)
    → cell_numbers (is x (literal_of l c q a b)) ≡ 14 ∷ x ∷ 0 ∷ 0 ∷ []
unfolding cell_numbers is_numbers literal_of
is-null-numbers x c q a b L.Null h = refl
is-null-numbers x c q a b L.Bool h = refl
is-null-numbers x c q a b L.Int h = refl
is-null-numbers x c q a b L.Float h = absurd (h refl)
is-null-numbers x c q a b L.Text h = refl
