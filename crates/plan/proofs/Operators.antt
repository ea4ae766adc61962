-- The binary operators that a plan has: what was appended for one is the operator's.
use Rattle.std.specs.Prelude.{ℕ, ◌+◌, ◌≡◌, refl, List, [], ◌∷◌}
use Rattle.rules.specs.Ast.{Plain, and, or, eq, gt, lt, add, div, pow, mul, rem, sub, like, plain}
use Rattle.rules.specs.Cells.{binary, added, operator}
use Rattle.numbers.specs.Operators.{binary_operator}
use Rattle.numbers.specs.declared.operators.Binary.{Binary}
use Rattle.numbers.specs.declared.operators.Binary.TheVariants as B
use Rattle.plan.specs.Cells.{Puts, Operated}

module _ (n x y : ℕ) (area area' : List ℕ) where
  pub operated-plain : (o : Binary) → (o ≡ B.GreaterThanOrEqual → ⊥) → (o ≡ B.LessThanOrEqual → ⊥) → (o ≡ B.NotEqual → ⊥)
      → ((s : Plain) → binary_operator o ≡ plain s → Puts n (binary s x y ∷ []) area area')
      → Operated (binary_operator o) n x y area area' (n + 1)
  unfolding binary_operator added operator
  operated-plain B.And a b c p = record { next = refl; puts = p and refl }
  operated-plain B.Or a b c p = record { next = refl; puts = p or refl }
  operated-plain B.Equal a b c p = record { next = refl; puts = p eq refl }
  operated-plain B.GreaterThan a b c p = record { next = refl; puts = p gt refl }
  operated-plain B.LessThan a b c p = record { next = refl; puts = p lt refl }
  operated-plain B.Add a b c p = record { next = refl; puts = p add refl }
  operated-plain B.Divide a b c p = record { next = refl; puts = p div refl }
  operated-plain B.Exponentiate a b c p = record { next = refl; puts = p pow refl }
  operated-plain B.Multiply a b c p = record { next = refl; puts = p mul refl }
  operated-plain B.Remainder a b c p = record { next = refl; puts = p rem refl }
  operated-plain B.Subtract a b c p = record { next = refl; puts = p sub refl }
  operated-plain B.Like a b c p = record { next = refl; puts = p like refl }
  operated-plain B.GreaterThanOrEqual a b c p = absurd (a refl)
  operated-plain B.LessThanOrEqual a b c p = absurd (b refl)
  operated-plain B.NotEqual a b c p = absurd (c refl)
