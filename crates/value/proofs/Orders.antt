-- Orders as std's methods give them are the rules'.
use Rattle.std.proofs.Common.{◌≡◌, ℕ, Bool, true, false, not, ◌&&◌, cond, ℤ, Option, None, Some, refl, sym, ◌∙◌}
use native.Mathlib.Omega.{arith}
use lib.Ieee as Ieee
use lib.Ieee.{Float}
use lib.Signed.{lt_z}
use Rattle.std.specs.Ordering.{is_lt, is_eq, is_gt, bool_cmp, int_cmp, float_partial_cmp}
use Rattle.std.specs.declared.cmp.Ordering.{Ordering}
use Rattle.std.specs.declared.cmp.Ordering.TheVariants.{Less, Equal, Greater}
use Rattle.rules.specs.Comparison.{Order, less, alike, greater, unordered, order_by, order_bools, order_integers, order_floats, order_texts}
use Rattle.rules.specs.Lists.{Bytes}
use Rattle.rules.specs.Places.{bytes_at, word_at}
use Rattle.text.specs.Order as bytes
use Rattle.text.specs.Order.{order_of as order_of_bytes}
use Rattle.value.specs.Operands.{order_of, Tests}

pub bools : (x y : Bool) → order_of (Some (bool_cmp x y)) ≡ order_bools x y
unfolding order_of order_bools
bools x y = grind arith

pub integers : (x y : ℤ) → order_of (Some (int_cmp x y)) ≡ order_integers x y
unfolding order_of order_by order_integers
integers x y = by (lt_z x y) (lt_z y x)
  where
    by : (l g : Bool) → order_of (Some (cond l Less (cond g Greater Equal))) ≡ order_by l (not l && not g) g
    by true true = refl
    by true false = refl
    by false true = refl
    by false false = refl

pub floats : (x y : Float) → order_of (float_partial_cmp x y) ≡ order_floats x y
unfolding order_of order_by order_floats
floats x y = by (Ieee.lt x y) (Ieee.eq x y) (Ieee.lt y x)
  where
    by : (l e g : Bool) → order_of (cond l (Some Less) (cond e (Some Equal) (cond g (Some Greater) None))) ≡ order_by l e g
    by true e g = refl
    by false true g = refl
    by false false true = refl
    by false false false = refl

-- texts in their place
by_order : (o : Ordering) → order_of (Some o) ≡ order_by (is_lt o) (is_eq o) (is_gt o)
unfolding order_of order_by
by_order o = grind arith

pub texts : (c q : Bytes) (s n t m : ℕ) → order_of (Some (order_of_bytes (bytes_at c q s n) (bytes_at c q t m))) ≡ order_texts (word_at c q s n) (word_at c q t m)
unfolding order_texts word_at
texts c q s n t m =
    let r = bytes.ordered (bytes_at c q s n) (bytes_at c q t m) in
    by_order (order_of_bytes (bytes_at c q s n) (bytes_at c q t m)) ∙ sym (λ i. order_by (r.less i) (r.equal i) (r.greater i))

-- a closure is a test where it is one at each order
pub by-orders : (P : Option Ordering → Bool → Type 0) (t : Order → Bool) → ((b : Bool) → P None b → b ≡ t unordered) → ((b : Bool) → P (Some Less) b → b ≡ t less)
    → ((b : Bool) → P (Some Equal) b → b ≡ t alike) → ((b : Bool) → P (Some Greater) b → b ≡ t greater) → Tests P t
unfolding order_of
by-orders P t u l a g None b p = u b p
by-orders P t u l a g (Some Less) b p = l b p
by-orders P t u l a g (Some Equal) b p = a b p
by-orders P t u l a g (Some Greater) b p = g b p
