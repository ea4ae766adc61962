-- Comparisons (expression.rs, Equal, GreaterThan and LessThan of evaluate).
use Rattle.std.specs.Prelude.{Bool, true, false, ◌&&◌, not, ℤ, Float}
use Rattle.std.specs.Int.Signed.{lt_z}
use Rattle.std.specs.Float.Ieee as Ieee
use Rattle.rules.specs.Refusals.{wrong_operand}
use Rattle.rules.specs.Lists.{same, before}
use Rattle.rules.specs.Lines.{Word}
use Rattle.rules.specs.Schema.{Value, null, bool, int, float, text}
use Rattle.rules.specs.Arithmetic.{Worked, gives, fails, float_of, rounded}

-- `unordered` is a NaN with any float
pub data Order : Type 0 where
  less alike greater unordered : Order

-- by the tests for less, the same and greater
unfoldable pub order_by : Bool → Bool → Bool → Order
order_by true s g = less
order_by false true g = alike
order_by false false true = greater
order_by false false false = unordered

unfoldable pub order_bools : Bool → Bool → Order
order_bools false false = alike
order_bools false true = less
order_bools true false = greater
order_bools true true = alike

unfoldable pub order_integers : ℤ → ℤ → Order
order_integers m n = order_by (lt_z m n) (not (lt_z m n) && not (lt_z n m)) (lt_z n m)

unfoldable pub order_floats : Float → Float → Order
unfolding Ieee.lt Ieee.eq
order_floats x y = order_by (Ieee.lt x y) (Ieee.eq x y) (Ieee.lt y x)

-- texts by bytes
unfoldable pub order_texts : Word → Word → Order
order_texts s t = order_by (before s.bytes t.bytes) (same s.bytes t.bytes) (before t.bytes s.bytes)

pub data Compared : Type 0 where
  ordered : Order → Compared
  unknown incomparable : Compared

-- a null with anything is unknown
unfoldable pub compare : Value → Value → Compared
compare null v = unknown
compare (bool a) null = unknown
compare (bool a) (bool b) = ordered (order_bools a b)
compare (bool a) (int n) = incomparable
compare (bool a) (float y) = incomparable
compare (bool a) (text t) = incomparable
compare (int m) null = unknown
compare (int m) (bool b) = incomparable
compare (int m) (int n) = ordered (order_integers m n)
compare (int m) (float y) = ordered (order_floats (rounded m) (float_of y))
compare (int m) (text t) = incomparable
compare (float x) null = unknown
compare (float x) (bool b) = incomparable
compare (float x) (int n) = ordered (order_floats (float_of x) (rounded n))
compare (float x) (float y) = ordered (order_floats (float_of x) (float_of y))
compare (float x) (text t) = incomparable
compare (text s) null = unknown
compare (text s) (bool b) = incomparable
compare (text s) (int n) = incomparable
compare (text s) (float y) = incomparable
compare (text s) (text t) = ordered (order_texts s t)

unfoldable pub is_less : Order → Bool
is_less less = true
is_less alike = false
is_less greater = false
is_less unordered = false

unfoldable pub is_same : Order → Bool
is_same less = false
is_same alike = true
is_same greater = false
is_same unordered = false

unfoldable pub is_greater : Order → Bool
is_greater less = false
is_greater alike = false
is_greater greater = true
is_greater unordered = false

unfoldable pub compared : (Order → Bool) → Compared → Worked
compared t (ordered o) = gives (bool (t o))
compared t unknown = gives null
compared t incomparable = fails wrong_operand
