-- The operations that the code makes, on numbers of steps.
use mathlib.Core.Path.{◌≡◌, refl, sym, ap, ◌∙◌, subst}
use mathlib.Core.Bool.{Bool, true, false, ◌&&◌, ◌||◌, cond, true≢false}
use Prim.Native.Nat.{ℕ, ◌+◌, ◌-◌, ◌*◌, ◌/◌, ◌%◌, ◌^◌, ◌≤◌, ◌<◌}
use native.Mathlib.Nat.{mul-pos, mul_assoc, mul_comm, mul-one, eq-zero-or-pos, lt_of_not-le, not-le_of_lt, lt_of_lt_of_le, lt_of_le_of_lt, lt_irrefl, le_of_mul-le-mul_right, mul-le-mul_right}
use native.Mathlib.Omega.{arith}
use lib.Dec.{T, ltb, eqb}
use lib.IntN.{ℤ}
use lib.Pow.{pow_pos}
use borrow.Author.Tests.{le-ltb, ltb-true, ltb-false, eqb-true, ne_eqb}
use lib.Ieee.{Float, nan, inf, fin, binary64, up, down, round, neg, sum, add, sub, mul, rem, lt, le, eq, of_bits}
use lib.Ieee.Fits.{down_pos}
use lib.Ieee.Exact.{HasValue}
use lib.Ieee.Scale.{round_same}
use lib.Ieee.Order.{round_mono, transfer, le_of_values}
use lib.Ieee.Positive.{mul_at, positive_of_value}
use Rattle.remainder.proofs.Steps.{Is, at}
use Rattle.remainder.proofs.Numbers.{taken}

step : 0 < 2 ^ 1074
step = pow_pos 1074

sum_up : (a b c : ℕ) → sum binary64 false a false b c ≡ round binary64 false (a + b) c
unfolding sum
sum_up a b c = refl

sum_down : (a b c : ℕ) → b ≤ a → sum binary64 false a true b c ≡ round binary64 false (a - b) c
unfolding sum
sum_down a b c h = rw (le-ltb a b h) refl

pub plus : (x y : Float) (a b : ℕ) → Is x a → Is y b → add binary64 x y ≡ at (a + b)
unfolding add
plus nan y a b v w = absurd v
plus (inf r) y a b v w = absurd v
plus (fin r m e) nan a b v w = absurd w
plus (fin r m e) (inf u) a b v w = absurd w
plus (fin true m e) (fin u n d) a b v w = absurd (true≢false v.0)
plus (fin false m e) (fin true n d) a b v w = absurd (true≢false w.0)
plus (fin false m e) (fin false n d) a b v w =
    sum_up (m * up e * down d) (n * up d * down e) (down e * down d)
    ∙ round_same binary64 false (m * up e * down d + n * up d * down e) (down e * down d) (a + b) (2 ^ 1074) (mul-pos (down_pos e) (down_pos d)) step
    (omega (arith, ap (λ (k : ℕ). k * down d) v.1, ap (λ (k : ℕ). k * down e) w.1))

pub less : (x y : Float) (a b : ℕ) → b ≤ a → Is x a → Is y b → sub binary64 x y ≡ at (a - b)
unfolding sub add neg
less nan y a b h v w = absurd v
less (inf r) y a b h v w = absurd v
less (fin r m e) nan a b h v w = absurd w
less (fin r m e) (inf u) a b h v w = absurd w
less (fin true m e) (fin u n d) a b h v w = absurd (true≢false v.0)
less (fin false m e) (fin true n d) a b h v w = absurd (true≢false w.0)
less (fin false m e) (fin false n d) a b h v w =
    let l : n * up d * down e ≤ m * up e * down d = transfer (n * up d) (m * up e) (down d) (down e) b a (2 ^ 1074) (2 ^ 1074) step step w.1 v.1 (mul-le-mul_right (2 ^ 1074) h) in
    let x_is : m * up e * down d * 2 ^ 1074 ≡ a * (down e * down d) = omega (arith, ap (λ (k : ℕ). k * down d) v.1) in
    let y_is : n * up d * down e * 2 ^ 1074 ≡ b * (down e * down d) = omega (arith, ap (λ (k : ℕ). k * down e) w.1) in
    sum_down (m * up e * down d) (n * up d * down e) (down e * down d) l
    ∙ round_same binary64 false (m * up e * down d - n * up d * down e) (down e * down d) (a - b) (2 ^ 1074) (mul-pos (down_pos e) (down_pos d)) step
    (sym (taken (m * up e * down d) (n * up d * down e) (2 ^ 1074) l) ∙ (λ i. x_is i - y_is i) ∙ taken a b (down e * down d) h)

-- ---- the order

cross : (m n d e a b : ℕ) → 0 < d → 0 < e → m * 2 ^ 1074 ≡ a * d → n * 2 ^ 1074 ≡ b * e → m * e ≤ n * d → a ≤ b
cross m n d e a b D E v w h =
    le_of_mul-le-mul_right (transfer a b (2 ^ 1074) (2 ^ 1074) m n d e D E (sym v) (sym w) h) step

pub lt_true : (x y : Float) (a b : ℕ) → Is x a → Is y b → lt x y ≡ true → a < b
unfolding lt
lt_true nan y a b v w h = absurd v
lt_true (inf s) y a b v w h = absurd v
lt_true (fin s m e) nan a b v w h = absurd w
lt_true (fin s m e) (inf t) a b v w h = absurd w
lt_true (fin true m e) (fin t n d) a b v w h = absurd (true≢false v.0)
lt_true (fin false m e) (fin true n d) a b v w h = absurd (true≢false w.0)
lt_true (fin false m e) (fin false n d) a b v w h =
    lt_of_not-le (λ (g : b ≤ a). not-le_of_lt (ltb-true (m * up e * down d) (n * up d * down e) h) (transfer (n * up d) (m * up e) (down d) (down e) b a (2 ^ 1074) (2 ^ 1074) step step w.1 v.1 (mul-le-mul_right (2 ^ 1074) g)))

pub lt_false : (x y : Float) (a b : ℕ) → Is x a → Is y b → lt x y ≡ false → b ≤ a
unfolding lt
lt_false nan y a b v w h = absurd v
lt_false (inf s) y a b v w h = absurd v
lt_false (fin s m e) nan a b v w h = absurd w
lt_false (fin s m e) (inf t) a b v w h = absurd w
lt_false (fin true m e) (fin t n d) a b v w h = absurd (true≢false v.0)
lt_false (fin false m e) (fin true n d) a b v w h = absurd (true≢false w.0)
lt_false (fin false m e) (fin false n d) a b v w h =
    cross (n * up d) (m * up e) (down d) (down e) b a (down_pos d) (down_pos e) w.1 v.1 (ltb-false (m * up e * down d) (n * up d * down e) h)

at_most : (a b : ℕ) → (ltb a b || (eqb a b && true)) ≡ true → a ≤ b
at_most a b = go (ltb a b) (eqb a b) refl refl
  where
    go : (p q : Bool) → ltb a b ≡ p → eqb a b ≡ q → (p || (q && true)) ≡ true → a ≤ b
    go true q e f h = native.Mathlib.Nat.le_of_lt (ltb-true a b e)
    go false true e f h = native.Mathlib.Nat.le_of_eq (eqb-true a b f)
    go false false e f h = absurd (true≢false (sym h))

pub le_true : (x y : Float) (a b : ℕ) → Is x a → Is y b → le x y ≡ true → a ≤ b
unfolding le lt eq
le_true nan y a b v w h = absurd v
le_true (inf s) y a b v w h = absurd v
le_true (fin s m e) nan a b v w h = absurd w
le_true (fin s m e) (inf t) a b v w h = absurd w
le_true (fin true m e) (fin t n d) a b v w h = absurd (true≢false v.0)
le_true (fin false m e) (fin true n d) a b v w h = absurd (true≢false w.0)
le_true (fin false m e) (fin false n d) a b v w h =
    cross (m * up e) (n * up d) (down e) (down d) a b (down_pos e) (down_pos d) v.1 w.1 (at_most (m * up e * down d) (n * up d * down e) h)

not_both : (t : Bool) → T t → t ≡ false → ⊥
not_both t h e = subst T e h

pub le_false : (x y : Float) (a b : ℕ) → Is x a → Is y b → le x y ≡ false → b < a
le_false x y a b v w h = lt_of_not-le (λ (g : a ≤ b). not_both (le x y) (le_of_values x y a (2 ^ 1074) b (2 ^ 1074) step step v w (mul-le-mul_right (2 ^ 1074) g)) h)

-- what is rounded keeps its order
pub rounded_le : (a b : ℕ) → a ≤ b → le (at a) (at b) ≡ false → ⊥
rounded_le a b h e = not_both (le (at a) (at b)) (round_mono binary64 a (2 ^ 1074) b (2 ^ 1074) step step (mul-le-mul_right (2 ^ 1074) h)) e

-- ---- the half

pub half_is : HasValue (of_bits binary64 0x3fe0_0000_0000_0000) false 1 2
unfolding of_bits
half_is = (refl, refl)

pub halved : (x : Float) (c : ℕ) → 0 < c → Is x (c + c) → mul binary64 x (of_bits binary64 0x3fe0_0000_0000_0000) ≡ at c
halved x c h v =
    mul_at binary64 x (of_bits binary64 0x3fe0_0000_0000_0000) (c + c) (2 ^ 1074) 1 2 (positive_of_value x (c + c) (2 ^ 1074) v (omega arith)) (positive_of_value (of_bits binary64 0x3fe0_0000_0000_0000) 1 2 half_is (omega arith)) step (omega arith) v half_is
    ∙ round_same binary64 false ((c + c) * 1) (2 ^ 1074 * 2) c (2 ^ 1074) (mul-pos step (pow_pos 1)) step same
  where
    same : (c + c) * 1 * 2 ^ 1074 ≡ c * (2 ^ 1074 * 2)
    same = omega arith

-- ---- the remainder

times_mod : (x y z : ℕ) → 0 < y → 0 < z → (x * z) % (y * z) ≡ x % y * z
times_mod x y z Y Z =
    let e : x * z ≡ x % y * z + x / y * (y * z) = omega (arith, ap (λ (k : ℕ). k * z) (native.Mathlib.Nat.div-add-mod' x y)) in
    ap (λ (k : ℕ). k % (y * z)) e ∙ native.Mathlib.Nat.add-mul-mod_self_right (x % y * z) (x / y) (y * z) ∙ native.Mathlib.Nat.mod-eq_of_lt (native.Mathlib.Nat.mul-lt-mul_of_pos_right (native.Mathlib.Nat.mod-lt x Y) Z)

no_zero : (n : ℕ) (d : ℤ) (b : ℕ) → 0 < b → n * up d * 2 ^ 1074 ≡ b * down d → n ≡ 0 → ⊥
no_zero n d b B w z = lt_irrefl 0 (subst (λ (k : ℕ). 0 < k) (sym w ∙ ap (λ (k : ℕ). k * up d * 2 ^ 1074) z ∙ omega arith) (mul-pos B (down_pos d)))

pub rem_at : (x y : Float) (a b : ℕ) → 0 < b → Is x a → Is y b → rem binary64 x y ≡ at (a % b)
unfolding rem
rem_at nan y a b B v w = absurd v
rem_at (inf s) y a b B v w = absurd v
rem_at (fin s m e) nan a b B v w = absurd w
rem_at (fin s m e) (inf t) a b B v w = absurd w
rem_at (fin true m e) (fin t n d) a b B v w = absurd (true≢false v.0)
rem_at (fin false m e) (fin t n d) a b B v w =
    let X = m * up e * down d in
    let Y = n * up d * down e in
    let Q = down e * down d in
    let some : 0 < Q = mul-pos (down_pos e) (down_pos d) in
    let x_is : X * 2 ^ 1074 ≡ a * Q = omega (arith, ap (λ (k : ℕ). k * down d) v.1) in
    let y_is : Y * 2 ^ 1074 ≡ b * Q = omega (arith, ap (λ (k : ℕ). k * down e) w.1) in
    let y_some : 0 < Y = native.Mathlib.Nat.lt_of_mul-lt-mul_right (2 ^ 1074) (subst (λ (k : ℕ). 0 * 2 ^ 1074 < k) (sym y_is) (mul-pos B some)) in
    let e : X % Y * 2 ^ 1074 ≡ a % b * Q = sym (times_mod X Y (2 ^ 1074) y_some step) ∙ (λ i. x_is i % y_is i) ∙ times_mod a b Q B some in
    ap (λ (k : Bool). cond k nan (round binary64 false (X % Y) Q)) (ne_eqb n 0 (no_zero n d b B w.1))
    ∙ round_same binary64 false (X % Y) Q (a % b) (2 ^ 1074) some step e
