-- What an operator gives, and why it may fail, for any property of values that holds of nulls, truths and what fits 64 bits.
use Rattle.std.specs.Prelude.{ℕ, ◌^◌, ◌<◌, ◌≡◌, ◌⊎◌, Bool, T, eqb, leb, ℤ, pos, negsuc, neg_ℤ, nat_abs, ◌+ℤ◌, ◌-ℤ◌, ◌*ℤ◌, Float}
use Rattle.std.proofs.Math.Path.{refl}
use Rattle.std.proofs.Common.{inl, inr, ltb-true}
use Rattle.std.proofs.Math.Bool.{true, false}
use Rattle.std.proofs.Math.Dec.{ltb}
use Rattle.std.specs.Int.Signed.{mag, quot_z, rem_z}
use Rattle.std.specs.Float.Ieee.{binary64}
use Rattle.std.specs.Float.Ieee as Ieee
use Rattle.std.specs.Float.Ieee.Bits.{of_bits-fits, to_bits-lt}
use Rattle.std.specs.Float.Ieee.Fits.{neg-fits, add-fits, sub-fits, mul-fits, div-fits, rem-fits, of_int-fits}
use Rattle.rules.specs.Refusals.{Reason, integer_overflow, division_by_zero, wrong_operand, not_worked_out}
use Rattle.rules.specs.Schema.{Value, null, bool, int, float, text}
use Rattle.rules.specs.Ast.{Unary, not, fact, ident, neg, sqrt, Plain, and, or, eq, gt, lt, add, div, pow, mul, rem, sub, like, Binary, plain, ge, le, ne}
use Rattle.rules.specs.Arithmetic.{Worked, gives, fails, fitted, quotient, remainder, power, raised, product, factorial, floating, float_of, rounded, Pair, integers, floats, absent, unlike, numbers, arithmetic, sum_of, difference_of, product_of, quotient_of, remainder_of, power_of}
use Rattle.rules.specs.Comparison.{Order, Compared, ordered, unknown, incomparable, compare, compared}
use Rattle.rules.specs.Operators.{logic, and_unknown, or_unknown, like_of, plain_of, binary_of, not_of, factorial_of, identity_of, negation_of, root_of, unary_of, is_nan}

-- the reasons for which a value is not worked out
abbrev pub Unworked : Reason → Type 0
Unworked k = (k ≡ integer_overflow) ⊎ (k ≡ division_by_zero) ⊎ (k ≡ wrong_operand) ⊎ (k ≡ not_worked_out)

-- a value with a property, or one of those reasons
abbrev pub Outcome : (Value → Type 0) → Worked → Type 0
Outcome Q (gives v) = Q v
Outcome Q (fails k) = Unworked k

-- a property that every operator keeps
pub record Kept (Q : Value → Type 0) : Type 0 where
  pub nulls : Q null
  pub truths : (a : Bool) → Q (bool a)
  pub within : (z : ℤ) → mag z < 2 ^ 63 → Q (int z)
  pub remainders : (m n : ℤ) → Q (int m) → Q (int (rem_z m n))
  pub floats : (b : ℕ) → b < 2 ^ 64 → Q (float b)

-- what arithmetic asks of its operands: of the left one
unfoldable Operands : (Value → Type 0) → Pair → Type 0
Operands Q (integers m n) = Q (int m)
Operands Q (floats x y) = T (Ieee.fits binary64 x)
Operands Q absent = Unit {0}
Operands Q unlike = Unit {0}

overflow : Unworked integer_overflow
overflow = inl refl

zero_divisor : Unworked division_by_zero
zero_divisor = inr (inl refl)

wrong : Unworked wrong_operand
wrong = inr (inr (inl refl))

later : Unworked not_worked_out
later = inr (inr (inr refl))

module _ (Q : Value → Type 0) (k : Kept Q) where
  fitted-outcome : (z : ℤ) → Outcome Q (fitted z)
  unfolding fitted
  fitted-outcome z = go (ltb (mag z) (2 ^ 63)) refl
    where
      go : (b : Bool) → ltb (mag z) (2 ^ 63) ≡ b → Outcome Q (elim b [ true ↦ gives (int z) | false ↦ fails integer_overflow ])
      go true p = k.within z (ltb-true (mag z) (2 ^ 63) p)
      go false p = overflow

  floating-outcome : (x : Float) → T (Ieee.fits binary64 x) → Outcome Q (floating x)
  unfolding floating
  floating-outcome x h = k.floats _ (to_bits-lt binary64 x h)

  quotient-outcome : (m n : ℤ) → Outcome Q (quotient m n)
  unfolding quotient
  quotient-outcome m n = go (eqb (nat_abs n) 0)
    where
      go : (b : Bool) → Outcome Q (elim b [ true ↦ fails division_by_zero | false ↦ fitted (quot_z m n) ])
      go true = zero_divisor
      go false = fitted-outcome (quot_z m n)

  remainder-outcome : (m n : ℤ) → Q (int m) → Outcome Q (remainder m n)
  unfolding remainder
  remainder-outcome m n h = go (quotient m n) (quotient-outcome m n)
    where
      go : (q : Worked) → Outcome Q q → Outcome Q (elim q [ gives q' ↦ gives (int (rem_z m n)) | fails r ↦ fails r ])
      go (gives q') o = k.remainders m n h
      go (fails r) o = o

  raised-outcome : (m n : ℤ) → Outcome Q (raised m n)
  unfolding raised
  raised-outcome m (pos e) = go (leb e 4294967295)
    where
      go : (b : Bool) → Outcome Q (elim b [ true ↦ fitted (power m e) | false ↦ fails integer_overflow ])
      go true = fitted-outcome (power m e)
      go false = overflow
  raised-outcome m (negsuc e) = later

  numbers-operands : (v w : Value) → Q v → Operands Q (numbers v w)
  unfolding numbers Operands float_of rounded
  numbers-operands null null h = tt
  numbers-operands null (bool b) h = tt
  numbers-operands null (int n) h = tt
  numbers-operands null (float y) h = tt
  numbers-operands null (text t) h = tt
  numbers-operands (bool a) w h = tt
  numbers-operands (int m) null h = tt
  numbers-operands (int m) (bool b) h = tt
  numbers-operands (int m) (int n) h = h
  numbers-operands (int m) (float y) h = of_int-fits binary64 m
  numbers-operands (int m) (text t) h = tt
  numbers-operands (float x) null h = tt
  numbers-operands (float x) (bool b) h = tt
  numbers-operands (float x) (int n) h = of_bits-fits binary64 x
  numbers-operands (float x) (float y) h = of_bits-fits binary64 x
  numbers-operands (float x) (text t) h = tt
  numbers-operands (text s) w h = tt

  arithmetic-outcome : (i : ℤ → ℤ → Worked) (f : Float → Float → Worked) → ((m n : ℤ) → Q (int m) → Outcome Q (i m n))
      → ((x y : Float) → T (Ieee.fits binary64 x) → Outcome Q (f x y)) → (p : Pair) → Operands Q p → Outcome Q (arithmetic i f p)
  unfolding arithmetic Operands
  arithmetic-outcome i f hi hf (integers m n) h = hi m n h
  arithmetic-outcome i f hi hf (floats x y) h = hf x y h
  arithmetic-outcome i f hi hf absent h = k.nulls
  arithmetic-outcome i f hi hf unlike h = wrong

  compared-outcome : (t : Order → Bool) (c : Compared) → Outcome Q (compared t c)
  unfolding compared
  compared-outcome t (ordered o) = k.truths (t o)
  compared-outcome t unknown = k.nulls
  compared-outcome t incomparable = wrong

  logic-outcome : (f : Bool → Bool → Bool) (u : Bool → Value) → ((a : Bool) → Q (u a)) → (v w : Value) → Outcome Q (logic f u v w)
  unfolding logic
  logic-outcome f u h null null = k.nulls
  logic-outcome f u h null (bool b) = h b
  logic-outcome f u h null (int n) = wrong
  logic-outcome f u h null (float y) = wrong
  logic-outcome f u h null (text t) = wrong
  logic-outcome f u h (bool a) null = h a
  logic-outcome f u h (bool a) (bool b) = k.truths (f a b)
  logic-outcome f u h (bool a) (int n) = wrong
  logic-outcome f u h (bool a) (float y) = wrong
  logic-outcome f u h (bool a) (text t) = wrong
  logic-outcome f u h (int m) w = wrong
  logic-outcome f u h (float x) w = wrong
  logic-outcome f u h (text s) w = wrong

  like-outcome : (v w : Value) → Outcome Q (like_of v w)
  unfolding like_of
  like-outcome null null = k.nulls
  like-outcome null (bool b) = wrong
  like-outcome null (int n) = wrong
  like-outcome null (float y) = wrong
  like-outcome null (text t) = k.nulls
  like-outcome (bool a) w = wrong
  like-outcome (int m) w = wrong
  like-outcome (float x) w = wrong
  like-outcome (text s) null = k.nulls
  like-outcome (text s) (bool b) = wrong
  like-outcome (text s) (int n) = wrong
  like-outcome (text s) (float y) = wrong
  like-outcome (text s) (text t) = later

  plain-outcome : (o : Plain) (v w : Value) → Q v → Outcome Q (plain_of o v w)
  unfolding plain_of and_unknown or_unknown sum_of difference_of product_of quotient_of remainder_of power_of
  plain-outcome and v w h = logic-outcome _ and_unknown (elim [ true ↦ k.nulls | false ↦ k.truths false ]) v w
  plain-outcome or v w h = logic-outcome _ or_unknown (elim [ true ↦ k.truths true | false ↦ k.nulls ]) v w
  plain-outcome eq v w h = compared-outcome _ (compare v w)
  plain-outcome gt v w h = compared-outcome _ (compare v w)
  plain-outcome lt v w h = compared-outcome _ (compare v w)
  plain-outcome add v w h = arithmetic-outcome _ _ (λ m n p. fitted-outcome (m +ℤ n)) (λ x y p. floating-outcome _ (add-fits binary64 x y)) (numbers v w) (numbers-operands v w h)
  plain-outcome div v w h = arithmetic-outcome _ _ (λ m n p. quotient-outcome m n) (λ x y p. floating-outcome _ (div-fits binary64 x y)) (numbers v w) (numbers-operands v w h)
  plain-outcome pow v w h = arithmetic-outcome _ _ (λ m n p. raised-outcome m n) (λ x y p. later) (numbers v w) (numbers-operands v w h)
  plain-outcome mul v w h = arithmetic-outcome _ _ (λ m n p. fitted-outcome (m *ℤ n)) (λ x y p. floating-outcome _ (mul-fits binary64 x y)) (numbers v w) (numbers-operands v w h)
  plain-outcome rem v w h = arithmetic-outcome _ _ remainder-outcome (λ x y p. floating-outcome _ (rem-fits binary64 x y p)) (numbers v w) (numbers-operands v w h)
  plain-outcome sub v w h = arithmetic-outcome _ _ (λ m n p. fitted-outcome (m -ℤ n)) (λ x y p. floating-outcome _ (sub-fits binary64 x y)) (numbers v w) (numbers-operands v w h)
  plain-outcome like v w h = like-outcome v w

  -- what a binary operator gives of a left operand with the property
  pub binary-outcome : (o : Binary) (v w : Value) → Q v → Outcome Q (binary_of o v w)
  unfolding binary_of
  binary-outcome (plain o) v w h = plain-outcome o v w h
  binary-outcome ge v w h = compared-outcome _ (compare v w)
  binary-outcome le v w h = compared-outcome _ (compare v w)
  binary-outcome ne v w h = compared-outcome _ (compare v w)

  factorial-outcome : (z : ℤ) → Outcome Q (factorial z)
  unfolding factorial
  factorial-outcome (pos n) = fitted-outcome (pos (product n 1 1))
  factorial-outcome (negsuc n) = wrong

  -- a root gives a null at most
  pub root-outcome : (v : Value) → Outcome Q (root_of v)
  unfolding root_of
  root-outcome null = k.nulls
  root-outcome (bool a) = wrong
  root-outcome (int (pos n)) = later
  root-outcome (int (negsuc n)) = wrong
  root-outcome (float x) = later
  root-outcome (text t) = wrong

  -- what a unary operator gives of an operand with the property
  pub unary-outcome : (o : Unary) (v : Value) → Q v → Outcome Q (unary_of o v)
  unfolding unary_of not_of factorial_of identity_of negation_of float_of
  unary-outcome not null h = k.nulls
  unary-outcome not (bool a) h = k.truths _
  unary-outcome not (int n) h = wrong
  unary-outcome not (float x) h = wrong
  unary-outcome not (text t) h = wrong
  unary-outcome fact null h = k.nulls
  unary-outcome fact (bool a) h = wrong
  unary-outcome fact (int n) h = factorial-outcome n
  unary-outcome fact (float x) h = wrong
  unary-outcome fact (text t) h = wrong
  unary-outcome ident null h = k.nulls
  unary-outcome ident (bool a) h = wrong
  unary-outcome ident (int n) h = h
  unary-outcome ident (float x) h = floating-outcome _ (of_bits-fits binary64 x)
  unary-outcome ident (text t) h = wrong
  unary-outcome neg null h = k.nulls
  unary-outcome neg (bool a) h = wrong
  unary-outcome neg (int n) h = fitted-outcome (neg_ℤ n)
  unary-outcome neg (float x) h = floating-outcome _ (neg-fits binary64 _ (of_bits-fits binary64 x))
  unary-outcome neg (text t) h = wrong
  unary-outcome sqrt v h = root-outcome v

  -- the test for a NaN
  pub nan-outcome : (v : Value) → Outcome Q (is_nan v)
  unfolding is_nan
  nan-outcome null = k.nulls
  nan-outcome (bool a) = wrong
  nan-outcome (int n) = wrong
  nan-outcome (float x) = k.truths _
  nan-outcome (text t) = wrong
