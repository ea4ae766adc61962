-- Every value that an operator gives is held as it is: its bits, if it is a float, are those of its float.
use Rattle.std.proofs.Common.{◌≡◌, ◌^◌, Bool, true, false, ◌&&◌, ◌||◌, T, eqb, ltb, leb, ℤ, pos, negsuc, ◌+ℤ◌, ◌-ℤ◌, ◌*ℤ◌, neg_ℤ, nat_abs, sym, refl, ap, ◌∙◌, arith}
use lib.Ieee as Ieee
use lib.Ieee.Fits.{neg-fits, add-fits, sub-fits, mul-fits, div-fits, rem-fits, of_int-fits}
use lib.Ieee.{Float, binary64, to_bits, fits}
use lib.Signed.{mag, quot_z, rem_z}
use Rattle.rules.specs.Arithmetic.{Worked, gives, fails, fitted, quotient, remainder, power, raised, product, factorial, float_of, rounded, floating, Pair, integers, floats, absent, unlike, numbers, arithmetic, sum_of, difference_of, product_of, quotient_of, remainder_of, power_of}
use Rattle.rules.specs.Ast.{Plain, and, or, eq, gt, lt, add, div, pow, mul, rem, sub, like, Binary, plain, ge, le, ne, Unary, not, fact, ident, neg, sqrt}
use Rattle.rules.specs.Comparison.{Order, Compared, compare, compared, is_less, is_same, is_greater}
use Rattle.rules.specs.Operators.{and_unknown, or_unknown, logic, like_of, plain_of, binary_of, not_of, factorial_of, identity_of, negation_of, root_of, unary_of, is_nan, is_of}
use Rattle.rules.specs.Refusals.{integer_overflow, division_by_zero, not_worked_out}
use Rattle.rules.specs.Schema.{Value, null, bool, int, float, text}
use Rattle.value.specs.Values.{held}
use Rattle.value.proofs.Floats.{back}
use Rattle.value.proofs.Held.{float_fits}

abbrev Held : Worked → Type 0
Held (gives v) = held v ≡ v
Held (fails k) = Unit

floating-held : (x : Float) → T (fits binary64 x) → Held (floating x)
unfolding floating held
floating-held x h = ap (λ (z : Float). float (to_bits binary64 z)) (back x h)

fitted-held : (z : ℤ) → Held (fitted z)
unfolding fitted held
fitted-held z = go (ltb (mag z) (2 ^ 63))
  where
    go : (t : Bool) → Held (elim t [ true ↦ gives (int z) | false ↦ fails integer_overflow ])
    go true = refl
    go false = tt

quotient-held : (m n : ℤ) → Held (quotient m n)
unfolding quotient
quotient-held m n = go (eqb (nat_abs n) 0)
  where
    go : (t : Bool) → Held (elim t [ true ↦ fails division_by_zero | false ↦ fitted (quot_z m n) ])
    go true = tt
    go false = fitted-held (quot_z m n)

remainder-held : (m n : ℤ) → Held (remainder m n)
unfolding remainder held
remainder-held m n = go (quotient m n)
  where
    go : (w : Worked) → Held (elim w [ gives q ↦ gives (int (rem_z m n)) | fails k ↦ fails k ])
    go (gives q) = refl
    go (fails k) = tt

raised-held : (m n : ℤ) → Held (raised m n)
unfolding raised
raised-held m (pos e) = go (leb e 4294967295)
  where
    go : (t : Bool) → Held (elim t [ true ↦ fitted (power m e) | false ↦ fails integer_overflow ])
    go true = fitted-held (power m e)
    go false = tt
raised-held m (negsuc e) = tt

-- the floats of a pair fit
abbrev Fit : Pair → Type 0
Fit (integers m n) = Unit
Fit (floats x y) = T (fits binary64 x)
Fit absent = Unit
Fit unlike = Unit

fits-rounded : (n : ℤ) → T (fits binary64 (rounded n))
unfolding rounded
fits-rounded n = of_int-fits binary64 n

numbers_fit : (v w : Value) → Fit (numbers v w)
unfolding numbers
numbers_fit v w = grind (arith, fits-rounded, float_fits)

module _ (i : ℤ → ℤ → Worked) (f : Float → Float → Worked) (hi : (m n : ℤ) → Held (i m n)) (hf : (x y : Float) → T (fits binary64 x) → Held (f x y)) where
  arithmetic-held : (p : Pair) → Fit p → Held (arithmetic i f p)
  unfolding arithmetic held
  arithmetic-held (integers m n) h = hi m n
  arithmetic-held (floats x y) h = hf x y h
  arithmetic-held absent h = refl
  arithmetic-held unlike h = tt

compared-held : (t : Order → Bool) (k : Compared) → Held (compared t k)
unfolding compared held
compared-held t k = grind arith

logic-gives : (f : Bool → Bool → Bool) (u : Bool → Value) → ((a : Bool) → held (u a) ≡ u a) → (v w : Value) → Held (logic f u v w)
unfolding logic held
logic-gives f u h v w = grind (arith, h)

like-gives : (v w : Value) → Held (like_of v w)
unfolding like_of held
like-gives v w = grind arith

plain-gives : (o : Plain) (v w : Value) → Held (plain_of o v w)
unfolding plain_of sum_of difference_of product_of quotient_of remainder_of power_of and_unknown or_unknown held
plain-gives and v w = logic-gives (λ a b. a && b) and_unknown (λ a. elim a as (λ k. held (and_unknown k) ≡ and_unknown k) [ true ↦ refl | false ↦ refl ]) v w
plain-gives or v w = logic-gives (λ a b. a || b) or_unknown (λ a. elim a as (λ k. held (or_unknown k) ≡ or_unknown k) [ true ↦ refl | false ↦ refl ]) v w
plain-gives eq v w = compared-held is_same (compare v w)
plain-gives gt v w = compared-held is_greater (compare v w)
plain-gives lt v w = compared-held is_less (compare v w)
plain-gives add v w =
    arithmetic-held (λ m n. fitted (m +ℤ n)) (λ x y. floating (Ieee.add binary64 x y)) (λ m n. fitted-held (m +ℤ n))
    (λ x y h. floating-held (Ieee.add binary64 x y) (add-fits binary64 x y)) (numbers v w) (numbers_fit v w)
plain-gives div v w =
    arithmetic-held quotient (λ x y. floating (Ieee.div binary64 x y)) quotient-held
    (λ x y h. floating-held (Ieee.div binary64 x y) (div-fits binary64 x y)) (numbers v w) (numbers_fit v w)
plain-gives pow v w = arithmetic-held raised (λ x y. fails not_worked_out) raised-held (λ x y h. tt) (numbers v w) (numbers_fit v w)
plain-gives mul v w =
    arithmetic-held (λ m n. fitted (m *ℤ n)) (λ x y. floating (Ieee.mul binary64 x y)) (λ m n. fitted-held (m *ℤ n))
    (λ x y h. floating-held (Ieee.mul binary64 x y) (mul-fits binary64 x y)) (numbers v w) (numbers_fit v w)
plain-gives rem v w =
    arithmetic-held remainder (λ x y. floating (Ieee.rem binary64 x y)) remainder-held
    (λ x y h. floating-held (Ieee.rem binary64 x y) (rem-fits binary64 x y h)) (numbers v w) (numbers_fit v w)
plain-gives sub v w =
    arithmetic-held (λ m n. fitted (m -ℤ n)) (λ x y. floating (Ieee.sub binary64 x y)) (λ m n. fitted-held (m -ℤ n))
    (λ x y h. floating-held (Ieee.sub binary64 x y) (sub-fits binary64 x y)) (numbers v w) (numbers_fit v w)
plain-gives like v w = like-gives v w

binary-any : (o : Binary) (v w : Value) → Held (binary_of o v w)
unfolding binary_of
binary-any (plain o) v w = plain-gives o v w
binary-any ge v w = compared-held _ (compare v w)
binary-any le v w = compared-held _ (compare v w)
binary-any ne v w = compared-held _ (compare v w)

factorial-held : (n : ℤ) → Held (factorial n)
unfolding factorial
factorial-held (pos n) = fitted-held (pos (product n 1 1))
factorial-held (negsuc n) = tt

unary-any : (o : Unary) (v : Value) → Held (unary_of o v)
unfolding unary_of not_of factorial_of identity_of negation_of root_of held
unary-any not null = refl
unary-any not (bool a) = refl
unary-any not (int m) = tt
unary-any not (float x) = tt
unary-any not (text s) = tt
unary-any fact null = refl
unary-any fact (bool a) = tt
unary-any fact (int m) = factorial-held m
unary-any fact (float x) = tt
unary-any fact (text s) = tt
unary-any ident null = refl
unary-any ident (bool a) = tt
unary-any ident (int m) = refl
unary-any ident (float x) = floating-held (float_of x) (float_fits x)
unary-any ident (text s) = tt
unary-any neg null = refl
unary-any neg (bool a) = tt
unary-any neg (int m) = fitted-held (neg_ℤ m)
unary-any neg (float x) = floating-held (Ieee.neg (float_of x)) (neg-fits binary64 (float_of x) (float_fits x))
unary-any neg (text s) = tt
unary-any sqrt null = refl
unary-any sqrt (bool a) = tt
unary-any sqrt (int (pos n)) = tt
unary-any sqrt (int (negsuc n)) = tt
unary-any sqrt (float x) = tt
unary-any sqrt (text s) = tt

-- a worked-out value is held as it is
given : (w : Worked) (u : Value) → Held w → w ≡ gives u → held u ≡ u
given (gives v) u h e = let f : v ≡ u = cc in ap held (sym f) ∙ h ∙ f
given (fails k) u h e = grind arith

pub binary-gives : (o : Binary) (v w u : Value) → binary_of o v w ≡ gives u → held u ≡ u
binary-gives o v w u e = given (binary_of o v w) u (binary-any o v w) e

pub unary-gives : (o : Unary) (v u : Value) → unary_of o v ≡ gives u → held u ≡ u
unary-gives o v u e = given (unary_of o v) u (unary-any o v) e

nan-any : (v : Value) → Held (is_nan v)
unfolding is_nan held
nan-any v = grind arith

is_any : (l v : Value) → Held (is_of l v)
unfolding is_of held
is_any l v = grind (arith, nan-any)

pub is-gives : (l v u : Value) → is_of l v ≡ gives u → held u ≡ u
is-gives l v u e = given (is_of l v) u (is_any l v) e
