-- What operators give: `ge`, `le` and `ne` are the Rust's combinations, and values stay within 64 bits.
use Rattle.std.specs.Prelude.{◌^◌, ◌<◌, ◌≡◌, refl, Bool, ◌||◌, not as not'}
use Rattle.std.proofs.Common.{arith}
use Rattle.std.specs.Int.Signed.{mag, mag_rem}
use Rattle.rules.specs.Schema.{Value, null, bool, int, float, text}
use Rattle.rules.specs.Ast.{Unary, not, or, eq, gt, lt, Binary, ge, le, ne}
use Rattle.rules.specs.Arithmetic.{Worked, gives, fails}
use Rattle.rules.specs.Comparison.{Order, Compared, ordered, unknown, incomparable, compare, compared, is_less, is_same, is_greater}
use Rattle.rules.specs.Operators.{logic, plain_of, binary_of, not_of, unary_of}
use Rattle.claims.specs.Values.Outcomes.{Outcome, Kept, unary-outcome, binary-outcome}

-- COMBINATIONS
-- the first that fails ends the whole
infixl 10 ◌and_then◌
abbrev pub ◌and_then◌ : Worked → (Value → Worked) → Worked
◌and_then◌ (gives v) f = f v
◌and_then◌ (fails k) f = fails k

either : (t : Order → Bool) (c : Compared)
    → compared (λ o. t o || is_same o) c ≡ (compared t c and_then λ g. compared is_same c and_then λ e. plain_of or g e)
unfolding compared plain_of logic
either t (ordered o) = refl
either t unknown = refl
either t incomparable = refl

-- greater or equal
pub ge-combined : (v w : Value) → binary_of ge v w ≡ (plain_of gt v w and_then λ g. plain_of eq v w and_then λ e. plain_of or g e)
unfolding binary_of plain_of
ge-combined v w = either is_greater (compare v w)

-- less or equal
pub le-combined : (v w : Value) → binary_of le v w ≡ (plain_of lt v w and_then λ l. plain_of eq v w and_then λ e. plain_of or l e)
unfolding binary_of plain_of
le-combined v w = either is_less (compare v w)

-- not equal
pub ne-combined : (v w : Value) → binary_of ne v w ≡ (plain_of eq v w and_then λ e. unary_of not e)
unfolding binary_of plain_of compared unary_of not_of
ne-combined v w = negated (compare v w)
  where
    negated : (c : Compared) → compared (λ o. not' (is_same o)) c ≡ (compared is_same c and_then λ e. unary_of not e)
    negated (ordered o) = refl
    negated unknown = refl
    negated incomparable = refl

-- WITHIN 64 BITS
-- an integer, and a float's bits, within 64 bits
unfoldable pub Fits : Value → Type 0
Fits null = Unit {0}
Fits (bool b) = Unit {0}
Fits (int z) = mag z < 2 ^ 63
Fits (float b) = b < 2 ^ 64
Fits (text w) = Unit {0}

-- every operator keeps to them
pub fits_kept : Kept Fits
unfolding Fits
fits_kept = record {
  nulls = tt;
  truths = λ a. tt;
  within = λ z h. h;
  remainders = λ m n h. omega (arith, mag_rem m n);
  floats = λ b h. h;
}

given : (Q : Value → Type 0) (x : Worked) → Outcome Q x → (v : Value) → x ≡ gives v → Q v
given Q (gives u) h v e = let q : u ≡ v = cc in rw (← q) h
given Q (fails r) h v e = grind arith

-- what an operator gives fits if its operand does
pub unary-fits : (o : Unary) (v : Value) → Fits v → (w : Value) → unary_of o v ≡ gives w → Fits w
unary-fits o v h = given Fits (unary_of o v) (unary-outcome Fits fits_kept o v h)

-- and of two if the left one does
pub binary-fits : (o : Binary) (u v : Value) → Fits u → (w : Value) → binary_of o u v ≡ gives w → Fits w
binary-fits o u v h = given Fits (binary_of o u v) (binary-outcome Fits fits_kept o u v h)
