-- Operators by the codes that the rules have for them.
use Rattle.std.specs.Prelude.{ℕ, [], ◌∷◌, ◌≡◌, refl}
use Rattle.std.proofs.Math.Option.{Option, none, some}
use Rattle.rules.specs.Refusals.{not_worked_out}
use Rattle.rules.specs.Schema.{Value}
use Rattle.rules.specs.Ast.{Unary, not, fact, ident, neg, sqrt, Plain, and, or, eq, gt, lt, add, div, pow, mul, rem, sub, like, Binary, plain, ge, le, ne}
use Rattle.rules.specs.Arithmetic.{Worked, fails}
use Rattle.rules.specs.Operators.{unary_of, binary_of}
use Rattle.rules.specs.Codes.{unary_code, plain_code, binary_code}
use Rattle.numbers.specs.Codes.{coded}

-- the operator of a code, if one has it
unfoldable pub unary_at : ℕ → Option Unary
unary_at n = coded none (some not ∷ some fact ∷ some ident ∷ some neg ∷ some sqrt ∷ []) 8 n

unfoldable pub binary_at : ℕ → Option Binary
binary_at n = coded none (
    some (plain and) ∷ some (plain or) ∷ some (plain eq) ∷ some (plain gt) ∷ some (plain lt) ∷ some (plain add) ∷ some (plain div) ∷ some (plain pow)
    ∷ some (plain mul) ∷ some (plain rem) ∷ some (plain sub) ∷ some (plain like) ∷ some ge ∷ some le ∷ some ne ∷ []
    ) 16 n

-- what the operator of a code gives; 28 where no operator has the code
unfoldable pub applied : {O : Type 0} → (O → Worked) → Option O → Worked
applied f none = fails not_worked_out
applied f (some o) = f o

unfoldable pub unary_worked : ℕ → Value → Worked
unary_worked n v = applied (λ o. unary_of o v) (unary_at n)

unfoldable pub binary_worked : ℕ → Value → Value → Worked
binary_worked n v w = applied (λ o. binary_of o v w) (binary_at n)

-- each operator is found by its code
pub unary-found : (o : Unary) → unary_at (unary_code o) ≡ some o
unfolding unary_at coded unary_code
unary-found not = refl
unary-found fact = refl
unary-found ident = refl
unary-found neg = refl
unary-found sqrt = refl

plain-found : (o : Plain) → binary_at (plain_code o) ≡ some (plain o)
unfolding binary_at coded binary_code plain_code
plain-found and = refl
plain-found or = refl
plain-found eq = refl
plain-found gt = refl
plain-found lt = refl
plain-found add = refl
plain-found div = refl
plain-found pow = refl
plain-found mul = refl
plain-found rem = refl
plain-found sub = refl
plain-found like = refl

pub binary-found : (o : Binary) → binary_at (binary_code o) ≡ some o
unfolding binary_at coded binary_code plain_code
binary-found (plain o) = plain-found o
binary-found ge = refl
binary-found le = refl
binary-found ne = refl
