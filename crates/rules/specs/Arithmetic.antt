-- Checked arithmetic (value.rs, checked_add .. checked_sub): a value, or why there is none.
use Rattle.std.specs.Prelude.{ℕ, zero, suc, ◌*◌, ◌%◌, ◌^◌, true, false, ◌&&◌, eqb, ltb, leb, ℤ, pos, negsuc, neg_ℤ, nat_abs, ◌+ℤ◌, ◌-ℤ◌, ◌*ℤ◌, Float}
use Rattle.std.specs.Int.Signed.{mag, quot_z, rem_z}
use Rattle.std.specs.Float.{binary64}
use Rattle.std.specs.Float.Ieee as Ieee
use Rattle.rules.specs.Refusals.{Reason, integer_overflow, division_by_zero, wrong_operand, not_worked_out}
use Rattle.rules.specs.Schema.{Value, null, bool, int, float, text}

-- 25 overflow, 26 divided by zero, 27 kinds that the operator does not take, 28 what document 01 leaves unworked
pub data Worked : Type 0 where
  gives : Value → Worked
  fails : Reason → Worked

-- INTEGERS
-- within 64 bits, else 25
unfoldable pub fitted : ℤ → Worked
fitted z = elim (ltb (mag z) (2 ^ 63)) [ true ↦ gives (int z) | false ↦ fails integer_overflow ]

-- toward zero
unfoldable pub quotient : ℤ → ℤ → Worked
quotient m n = elim (eqb (nat_abs n) 0) [ true ↦ fails division_by_zero | false ↦ fitted (quot_z m n) ]

-- with the dividend's sign; refused where the quotient is, so the lowest integer by -1 is 25
unfoldable pub remainder : ℤ → ℤ → Worked
remainder m n = elim (quotient m n) [ gives q ↦ gives (int (rem_z m n)) | fails k ↦ fails k ]

-- m ^ e, or 2 ^ 64 where it is certain to be past 64 bits
unfoldable pub bounded : ℕ → ℕ → ℕ
bounded m e = elim (ltb 1 m && ltb 63 e) [ true ↦ 2 ^ 64 | false ↦ m ^ e ]

-- a negative number's power has its sign where the exponent is odd
unfoldable pub power : ℤ → ℕ → ℤ
power (pos m) e = pos (bounded m e)
power (negsuc m) e = elim (eqb (e % 2) 1) [ true ↦ neg_ℤ (pos (bounded (suc m) e)) | false ↦ pos (bounded (suc m) e) ]

-- the exponent is a number of 32 bits; a negative one would give a float
unfoldable pub raised : ℤ → ℤ → Worked
raised m (pos e) = elim (leb e 4294967295) [ true ↦ fitted (power m e) | false ↦ fails integer_overflow ]
raised m (negsuc e) = fails not_worked_out

-- a * k * (k + 1) * .. of n factors, stopped at the first product past 64 bits
unfoldable pub product : ℕ → ℕ → ℕ → ℕ
product zero k a = a
product (suc n) k a = elim (ltb a (2 ^ 63)) [ true ↦ product n (suc k) (a * k) | false ↦ a ]

unfoldable pub factorial : ℤ → Worked
factorial (pos n) = fitted (pos (product n 1 1))
factorial (negsuc n) = fails wrong_operand

-- FLOATS are held by their bits
unfoldable pub float_of : ℕ → Float
unfolding Ieee.of_bits
float_of b = Ieee.of_bits binary64 b

-- every NaN that an operator gives is 7ff8000000000000
unfoldable pub floating : Float → Worked
unfolding Ieee.to_bits
floating x = gives (float (Ieee.to_bits binary64 x))

-- an integer as a float: to nearest, ties to even
unfoldable pub rounded : ℤ → Float
unfolding Ieee.of_int
rounded n = Ieee.of_int binary64 n

-- ARITHMETIC
-- the operands: both integers, or else both floats; a null with a null or a number; anything else
pub data Pair : Type 0 where
  integers : ℤ → ℤ → Pair
  floats : Float → Float → Pair
  absent unlike : Pair

unfoldable pub numbers : Value → Value → Pair
numbers null null = absent
numbers null (bool b) = unlike
numbers null (int n) = absent
numbers null (float y) = absent
numbers null (text t) = unlike
numbers (bool a) v = unlike
numbers (int m) null = absent
numbers (int m) (bool b) = unlike
numbers (int m) (int n) = integers m n
numbers (int m) (float y) = floats (rounded m) (float_of y)
numbers (int m) (text t) = unlike
numbers (float x) null = absent
numbers (float x) (bool b) = unlike
numbers (float x) (int n) = floats (float_of x) (rounded n)
numbers (float x) (float y) = floats (float_of x) (float_of y)
numbers (float x) (text t) = unlike
numbers (text s) v = unlike

unfoldable pub arithmetic : (ℤ → ℤ → Worked) → (Float → Float → Worked) → Pair → Worked
arithmetic i f (integers m n) = i m n
arithmetic i f (floats x y) = f x y
arithmetic i f absent = gives null
arithmetic i f unlike = fails wrong_operand

unfoldable pub sum_of : Pair → Worked
unfolding Ieee.add
sum_of = arithmetic (λ m n. fitted (m +ℤ n)) (λ x y. floating (Ieee.add binary64 x y))

unfoldable pub difference_of : Pair → Worked
unfolding Ieee.sub
difference_of = arithmetic (λ m n. fitted (m -ℤ n)) (λ x y. floating (Ieee.sub binary64 x y))

unfoldable pub product_of : Pair → Worked
unfolding Ieee.mul
product_of = arithmetic (λ m n. fitted (m *ℤ n)) (λ x y. floating (Ieee.mul binary64 x y))

unfoldable pub quotient_of : Pair → Worked
unfolding Ieee.div
quotient_of = arithmetic quotient (λ x y. floating (Ieee.div binary64 x y))

-- Rust's `%`: the quotient cut to a whole number, the dividend's sign
unfoldable pub remainder_of : Pair → Worked
unfolding Ieee.rem
remainder_of = arithmetic remainder (λ x y. floating (Ieee.rem binary64 x y))

unfoldable pub power_of : Pair → Worked
power_of = arithmetic raised (λ x y. fails not_worked_out)
