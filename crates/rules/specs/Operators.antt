-- What each operator gives of values (expression.rs, evaluate).
use Rattle.std.specs.Prelude.{Bool, true, false, ◌&&◌, ◌||◌, not as not', pos, negsuc, neg_ℤ}
use Rattle.std.specs.Float.Ieee as Ieee
use Rattle.rules.specs.Refusals.{wrong_operand, not_worked_out, invalid_is}
use Rattle.rules.specs.Schema.{Value, null, bool, int, float, text}
use Rattle.rules.specs.Ast.{Unary, not, fact, ident, neg, sqrt}
use Rattle.rules.specs.Ast.{Plain, and, or, eq, gt, lt, add, div, pow, mul, rem, sub, like}
use Rattle.rules.specs.Ast.{Binary, plain, ge, le, ne}
use Rattle.rules.specs.Arithmetic.{Worked, gives, fails, fitted, factorial, float_of, floating, numbers, sum_of}
use Rattle.rules.specs.Arithmetic.{difference_of, product_of, quotient_of, remainder_of, power_of}
use Rattle.rules.specs.Comparison.{compare, compared, is_less, is_same, is_greater}

-- AND, OR: null stands for an unknown truth
unfoldable pub and_unknown : Bool → Value
and_unknown true = null
and_unknown false = bool false

unfoldable pub or_unknown : Bool → Value
or_unknown true = bool true
or_unknown false = null

-- by what two truths give, and a truth with a null
unfoldable pub logic : (Bool → Bool → Bool) → (Bool → Value) → Value → Value → Worked
logic f u null null = gives null
logic f u null (bool b) = gives (u b)
logic f u null (int n) = fails wrong_operand
logic f u null (float y) = fails wrong_operand
logic f u null (text t) = fails wrong_operand
logic f u (bool a) null = gives (u a)
logic f u (bool a) (bool b) = gives (bool (f a b))
logic f u (bool a) (int n) = fails wrong_operand
logic f u (bool a) (float y) = fails wrong_operand
logic f u (bool a) (text t) = fails wrong_operand
logic f u (int m) v = fails wrong_operand
logic f u (float x) v = fails wrong_operand
logic f u (text s) v = fails wrong_operand

-- LIKE is not worked out
unfoldable pub like_of : Value → Value → Worked
like_of null null = gives null
like_of null (bool b) = fails wrong_operand
like_of null (int n) = fails wrong_operand
like_of null (float y) = fails wrong_operand
like_of null (text t) = gives null
like_of (bool a) v = fails wrong_operand
like_of (int m) v = fails wrong_operand
like_of (float x) v = fails wrong_operand
like_of (text s) null = gives null
like_of (text s) (bool b) = fails wrong_operand
like_of (text s) (int n) = fails wrong_operand
like_of (text s) (float y) = fails wrong_operand
like_of (text s) (text t) = fails not_worked_out

unfoldable pub plain_of : Plain → Value → Value → Worked
plain_of and v w = logic (λ a b. a && b) and_unknown v w
plain_of or v w = logic (λ a b. a || b) or_unknown v w
plain_of eq v w = compared is_same (compare v w)
plain_of gt v w = compared is_greater (compare v w)
plain_of lt v w = compared is_less (compare v w)
plain_of add v w = sum_of (numbers v w)
plain_of div v w = quotient_of (numbers v w)
plain_of pow v w = power_of (numbers v w)
plain_of mul v w = product_of (numbers v w)
plain_of rem v w = remainder_of (numbers v w)
plain_of sub v w = difference_of (numbers v w)
plain_of like v w = like_of v w

-- `ge` is greater or equal, `le` less or equal, `ne` not equal: two floats of which one is a NaN are `ne` alone
unfoldable pub binary_of : Binary → Value → Value → Worked
binary_of (plain o) v w = plain_of o v w
binary_of ge v w = compared (λ o. is_greater o || is_same o) (compare v w)
binary_of le v w = compared (λ o. is_less o || is_same o) (compare v w)
binary_of ne v w = compared (λ o. not' (is_same o)) (compare v w)

-- ONE OPERAND: a null gives null
unfoldable pub not_of : Value → Worked
not_of null = gives null
not_of (bool a) = gives (bool (not' a))
not_of (int n) = fails wrong_operand
not_of (float x) = fails wrong_operand
not_of (text t) = fails wrong_operand

unfoldable pub factorial_of : Value → Worked
factorial_of null = gives null
factorial_of (bool a) = fails wrong_operand
factorial_of (int n) = factorial n
factorial_of (float x) = fails wrong_operand
factorial_of (text t) = fails wrong_operand

unfoldable pub identity_of : Value → Worked
identity_of null = gives null
identity_of (bool a) = fails wrong_operand
identity_of (int n) = gives (int n)
identity_of (float x) = floating (float_of x)
identity_of (text t) = fails wrong_operand

unfoldable pub negation_of : Value → Worked
unfolding Ieee.neg
negation_of null = gives null
negation_of (bool a) = fails wrong_operand
negation_of (int n) = fitted (neg_ℤ n)
negation_of (float x) = floating (Ieee.neg (float_of x))
negation_of (text t) = fails wrong_operand

-- a root is not worked out
unfoldable pub root_of : Value → Worked
root_of null = gives null
root_of (bool a) = fails wrong_operand
root_of (int (pos n)) = fails not_worked_out
root_of (int (negsuc n)) = fails wrong_operand
root_of (float x) = fails not_worked_out
root_of (text t) = fails wrong_operand

unfoldable pub unary_of : Unary → Value → Worked
unary_of not v = not_of v
unary_of fact v = factorial_of v
unary_of ident v = identity_of v
unary_of neg v = negation_of v
unary_of sqrt v = root_of v

-- IS
unfoldable pub is_null : Value → Bool
is_null null = true
is_null (bool a) = false
is_null (int n) = false
is_null (float x) = false
is_null (text t) = false

unfoldable pub is_nan : Value → Worked
unfolding Ieee.is_nan
is_nan null = gives null
is_nan (bool a) = fails wrong_operand
is_nan (int n) = fails wrong_operand
is_nan (float x) = gives (bool (Ieee.is_nan (float_of x)))
is_nan (text t) = fails wrong_operand

-- by the literal behind `is`: a null, or a NaN; another one was 29 before
unfoldable pub is_of : Value → Value → Worked
is_of null v = gives (bool (is_null v))
is_of (bool a) v = fails invalid_is
is_of (int n) v = fails invalid_is
is_of (float x) v = is_nan v
is_of (text t) v = fails invalid_is
