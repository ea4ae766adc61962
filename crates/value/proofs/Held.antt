-- Operators look at the float alone that bits stand for: a literal may be held by the bits of its float.
use Rattle.std.proofs.Common.{◌≡◌, ℕ, Bool, T, refl, ap}
use native.Mathlib.Omega.{arith}
use lib.Ieee.Bits.{of_bits-fits}
use lib.Ieee.{binary64, to_bits, fits}
use Rattle.rules.specs.Arithmetic.{gives, float_of, numbers, sum_of, difference_of, product_of, quotient_of, remainder_of, power_of}
use Rattle.rules.specs.Ast.{Plain, and, or, eq, gt, lt, add, div, pow, mul, rem, sub, like, Binary, plain, ge, le, ne, Unary}
use Rattle.rules.specs.Comparison.{compare, compared, is_less, is_same, is_greater}
use Rattle.rules.specs.Operators.{logic, like_of, plain_of, binary_of, not_of, factorial_of, identity_of, negation_of, root_of, unary_of, is_null, is_nan, is_of}
use Rattle.rules.specs.Schema.{Value, null, bool, int, float, text}
use Rattle.value.specs.Values.{held}
use Rattle.value.proofs.Floats.{back}

pub float_fits : (b : ℕ) → T (fits binary64 (float_of b))
unfolding float_of
float_fits b = of_bits-fits binary64 b

float-held : (b : ℕ) → float_of (to_bits binary64 (float_of b)) ≡ float_of b
float-held b = back (float_of b) (float_fits b)

numbers-held : (v w : Value) → numbers (held v) (held w) ≡ numbers v w
unfolding numbers held
numbers-held v w = grind (arith, float-held)

compare-held : (v w : Value) → compare (held v) (held w) ≡ compare v w
unfolding compare held
compare-held v w = grind (arith, float-held)

logic-held : (f : Bool → Bool → Bool) (u : Bool → Value) (v w : Value) → logic f u (held v) (held w) ≡ logic f u v w
unfolding logic held
logic-held f u v w = grind arith

like-held : (v w : Value) → like_of (held v) (held w) ≡ like_of v w
unfolding like_of held
like-held v w = grind arith

plain-held : (o : Plain) (v w : Value) → plain_of o (held v) (held w) ≡ plain_of o v w
unfolding plain_of
plain-held and v w = logic-held _ _ v w
plain-held or v w = logic-held _ _ v w
plain-held eq v w = ap (compared is_same) (compare-held v w)
plain-held gt v w = ap (compared is_greater) (compare-held v w)
plain-held lt v w = ap (compared is_less) (compare-held v w)
plain-held add v w = ap sum_of (numbers-held v w)
plain-held div v w = ap quotient_of (numbers-held v w)
plain-held pow v w = ap power_of (numbers-held v w)
plain-held mul v w = ap product_of (numbers-held v w)
plain-held rem v w = ap remainder_of (numbers-held v w)
plain-held sub v w = ap difference_of (numbers-held v w)
plain-held like v w = like-held v w

pub binary-held : (o : Binary) (v w : Value) → binary_of o (held v) (held w) ≡ binary_of o v w
unfolding binary_of
binary-held (plain o) v w = plain-held o v w
binary-held ge v w = ap (compared _) (compare-held v w)
binary-held le v w = ap (compared _) (compare-held v w)
binary-held ne v w = ap (compared _) (compare-held v w)

pub unary-held : (o : Unary) (v : Value) → unary_of o (held v) ≡ unary_of o v
unfolding unary_of not_of factorial_of identity_of negation_of root_of held
unary-held o v = grind (arith, float-held)

null-held : (v : Value) → is_null (held v) ≡ is_null v
unfolding is_null held
null-held v = grind arith

nan-held : (v : Value) → is_nan (held v) ≡ is_nan v
unfolding is_nan held
nan-held v = grind (arith, float-held)

pub is_held : (l v : Value) → is_of l (held v) ≡ is_of l v
unfolding is_of
is_held null v = ap (λ (b : Bool). gives (bool b)) (null-held v)
is_held (bool a) v = refl
is_held (int m) v = refl
is_held (float x) v = nan-held v
is_held (text s) v = refl
