-- Operators and their codes: a code is the operator's place in the order, from the first code on, and operators are the same
-- where their codes are.
use Rattle.std.specs.Prelude.{ℕ, ◌+◌, ◌≡◌, Bool, true, false, eqb}
use Rattle.std.proofs.Common.{arith, refl, eqb-true, eq-eqb, ne_eqb}
use Rattle.std.proofs.lemmas.Bool.{eqb-false}
use denote.Enum.Declared.{tag_of}
use denote.Enum.Bare.{sameb}
use Rattle.rules.specs.Codes.{unary_code, binary_code, plain_code}
use Rattle.numbers.specs.Operators.{unary_operator, binary_operator}
use Rattle.numbers.specs.contracts.operators.Unary as unary
use Rattle.numbers.specs.contracts.operators.Binary as binary
use Rattle.numbers.specs.declared.operators.Unary.{Unary}
use Rattle.numbers.specs.declared.operators.Unary.TheVariants as U
use Rattle.numbers.specs.declared.operators.Binary.{Binary}
use Rattle.numbers.specs.declared.operators.Binary.TheVariants as B

pub unary-place : (o : Unary) → tag_of unary.the_type o + 8 ≡ unary_code (unary_operator o)
unfolding unary_operator unary_code
unary-place U.Not = refl
unary-place U.Factorial = refl
unary-place U.Identity = refl
unary-place U.Negate = refl
unary-place U.SquareRoot = refl

pub binary-place : (o : Binary) → tag_of binary.the_type o + 16 ≡ binary_code (binary_operator o)
unfolding binary_operator binary_code plain_code
binary-place B.And = refl
binary-place B.Or = refl
binary-place B.Equal = refl
binary-place B.GreaterThan = refl
binary-place B.LessThan = refl
binary-place B.Add = refl
binary-place B.Divide = refl
binary-place B.Exponentiate = refl
binary-place B.Multiply = refl
binary-place B.Remainder = refl
binary-place B.Subtract = refl
binary-place B.Like = refl
binary-place B.GreaterThanOrEqual = refl
binary-place B.LessThanOrEqual = refl
binary-place B.NotEqual = refl

eqb-behind : (k m n : ℕ) → eqb m n ≡ eqb (m + k) (n + k)
eqb-behind k m n = pick (eqb m n) refl
  where
    pick : (b : Bool) → eqb m n ≡ b → b ≡ eqb (m + k) (n + k)
    pick true e = rw (eqb-true m n e, eq-eqb (n + k) (n + k) refl)
    pick false e = rw (ne_eqb (m + k) (n + k) (λ h. eqb-false m n e (omega arith)))

pub same-unary : (a b : Unary) → sameb unary.the_type a b ≡ eqb (unary_code (unary_operator a)) (unary_code (unary_operator b))
same-unary a b = rw (← unary-place a, ← unary-place b) (eqb-behind 8 (tag_of unary.the_type a) (tag_of unary.the_type b))

pub same-binary : (a b : Binary) → sameb binary.the_type a b
    ≡ eqb (binary_code (binary_operator a)) (binary_code (binary_operator b))
same-binary a b = rw (← binary-place a, ← binary-place b) (eqb-behind 16 (tag_of binary.the_type a) (tag_of binary.the_type b))
