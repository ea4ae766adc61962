-- Operands told apart, and how two values compare.
use Rattle.std.specs.Prelude.{◌≡◌, Bool, ℤ, Float, Option, None, Some, Result, Ok, Err}
use Rattle.std.specs.Int.{w64}
use Rattle.std.specs.Int.RustNames.{FitsSigned}
use Rattle.numbers.specs.Reasons.{reason_of}
use Rattle.numbers.specs.declared.refusals.Reason.{Reason}
use Rattle.rules.specs.Refusals.{wrong_operand}
use Rattle.rules.specs.Schema as rule
use Rattle.rules.specs.Schema.{null, bool, int, float, text}
use Rattle.rules.specs.Arithmetic.{Worked, gives, fails, float_of, floating}
use Rattle.rules.specs.Comparison as comparison
use Rattle.rules.specs.Comparison.{Order, less, alike, greater, unordered, ordered, unknown, incomparable}
use Rattle.value.specs.declared.comparison.Compared.{Compared}
use Rattle.value.specs.declared.comparison.Compared.TheVariants as Co
use Rattle.std.specs.declared.cmp.Ordering.{Ordering}
use Rattle.std.specs.declared.cmp.Ordering.TheVariants.{Less, Equal, Greater}
use Rattle.ints.specs.Checked.{checked}

-- the float that an operator gave, or why there is none
unfoldable pub floated : Result Float Reason → Worked
floated (Ok x) = floating x
floated (Err r) = fails (reason_of r)

-- a closure gives of integers, or of floats, what the rule gives
abbrev pub GivesInt : (ℤ → Result ℤ Reason → Type 0) → (ℤ → Worked) → Type 0
GivesInt post i = (x : ℤ) → FitsSigned w64 x → (r : Result ℤ Reason) → post x r → checked r ≡ i x

abbrev pub GivesInts : (ℤ → ℤ → Result ℤ Reason → Type 0) → (ℤ → ℤ → Worked) → Type 0
GivesInts post i = (x y : ℤ) → FitsSigned w64 x → FitsSigned w64 y → (r : Result ℤ Reason) → post x y r → checked r ≡ i x y

abbrev pub GivesFloat : (Float → Result Float Reason → Type 0) → (Float → Worked) → Type 0
GivesFloat post f = (x : Float) → (r : Result Float Reason) → post x r → floated r ≡ f x

abbrev pub GivesFloats : (Float → Float → Result Float Reason → Type 0) → (Float → Float → Worked) → Type 0
GivesFloats post f = (x y : Float) → (r : Result Float Reason) → post x y r → floated r ≡ f x y

-- an operator on one number, by what it gives of an integer and of a float
unfoldable pub number_of : (ℤ → Worked) → (Float → Worked) → rule.Value → Worked
number_of i f null = gives null
number_of i f (bool b) = fails wrong_operand
number_of i f (int n) = i n
number_of i f (float x) = f (float_of x)
number_of i f (text t) = fails wrong_operand

-- the order of two values; of a NaN with a float there is none
unfoldable pub order_of : Option Ordering → Order
order_of None = unordered
order_of (Some Less) = less
order_of (Some Equal) = alike
order_of (Some Greater) = greater

unfoldable pub compared_of : Compared → comparison.Compared
compared_of (Co.Ordered o) = ordered (order_of o)
compared_of Co.Unknown = unknown
compared_of Co.Incomparable = incomparable

-- a closure gives of an order what the test gives
abbrev pub Tests : (Option Ordering → Bool → Type 0) → (Order → Bool) → Type 0
Tests post t = (o : Option Ordering) (b : Bool) → post o b → b ≡ t (order_of o)
