-- Numbers of steps that the format holds: a difference, a double, a half.
use mathlib.Core.Path.{◌≡◌, refl, sym, ap, ◌∙◌, subst}
use mathlib.Core.Logic.{◌⊎◌, inl, inr}
use Prim.Native.Nat.{ℕ, zero, suc, ◌+◌, ◌-◌, ◌*◌, ◌/◌, ◌%◌, ◌^◌, ◌≤◌, ◌<◌}
use native.Mathlib.Nat.{mul-pos, mul_assoc, mul_comm, mul-one, le_of_mul-le-mul_right, lt_of_mul-lt-mul_right, lt_of_le_of_lt, lt_of_lt_of_le, sub-le, eq-zero-or-pos, pow-succ', mod-lt, mod-mod, add-mul-mod_self_right, div-add-mod', mod-eq_of_lt}
use native.Mathlib.Omega.{arith}
use lib.Pow.{pow-add, pow_pos}
use Rattle.remainder.specs.Steps.{IsDoubled}
use Rattle.remainder.proofs.Steps.{Held}

pub taken : (p r k : ℕ) → r ≤ p → p * k - r * k ≡ (p - r) * k
taken p r k h = let e : p ≡ p - r + r = omega arith in omega (arith, ap (λ (x : ℕ). x * k) e)

-- a multiple of the coarser unit is one of the finer
finer : (q j i : ℕ) → i ≤ j → q * 2 ^ j ≡ q * 2 ^ (j - i) * 2 ^ i
finer q j i h = let e : j ≡ j - i + i = omega arith in ap (λ (z : ℕ). q * 2 ^ z) e ∙ ap (λ (z : ℕ). q * z) (pow-add 2 (j - i) i) ∙ sym (mul_assoc q (2 ^ (j - i)) (2 ^ i))

under : (a b : ℕ) → a < 2 * b → a - b < b
under a b h = go (eq-zero-or-pos b)
  where
    go : (b ≡ 0) ⊎ (0 < b) → a - b < b
    go (inl z) = absurd (omega arith)
    go (inr p) = omega arith

pub less_held : (a b : ℕ) → Held a → Held b → b ≤ a → a < 2 * b → Held (a - b)
less_held a b h k l m = go (eq-zero-or-pos (h.1 - k.1))
  where
    small : a - b < 2 ^ 2098
    small = lt_of_le_of_lt (sub-le a b) h.4

    go : (h.1 - k.1 ≡ 0) ⊎ (0 < h.1 - k.1) → Held (a - b)
    go (inl z) =
        let i = h.1 in
        let r = k.0 * 2 ^ (k.1 - i) in
        let b_is : b ≡ r * 2 ^ i = k.2 ∙ finer k.0 k.1 i (omega arith) in
        let o : r ≤ h.0 = le_of_mul-le-mul_right (subst (λ (x : ℕ). x ≤ h.0 * 2 ^ i) b_is (subst (λ (x : ℕ). b ≤ x) h.2 l)) (pow_pos i) in
        (h.0 - r, i, (λ t. h.2 t - b_is t) ∙ taken h.0 r (2 ^ i) o, lt_of_le_of_lt (sub-le h.0 r) h.3, small)
    go (inr p) =
        let i = k.1 in
        let r = h.0 * 2 ^ (h.1 - i) in
        let a_is : a ≡ r * 2 ^ i = h.2 ∙ finer h.0 h.1 i (omega arith) in
        let o : k.0 ≤ r = le_of_mul-le-mul_right (subst (λ (x : ℕ). k.0 * 2 ^ i ≤ x) a_is (subst (λ (x : ℕ). x ≤ a) k.2 l)) (pow_pos i) in
        let e : a - b ≡ (r - k.0) * 2 ^ i = (λ t. a_is t - k.2 t) ∙ taken r k.0 (2 ^ i) o in
        let s : r - k.0 < k.0 = lt_of_mul-lt-mul_right (2 ^ i) (subst (λ (x : ℕ). x < k.0 * 2 ^ i) e (subst (λ (x : ℕ). a - b < x) k.2 (under a b m))) in
        (r - k.0, i, e, native.Mathlib.Nat.lt_trans s k.3, small)

twice : (q j : ℕ) → q * 2 ^ j + q * 2 ^ j ≡ q * 2 ^ suc j
twice q j = omega (arith, ap (λ (z : ℕ). q * z) (pow-succ' 2 j))

pub twice_held : (n : ℕ) → Held n → n + n < 2 ^ 2098 → Held (n + n)
twice_held n h l = (h.0, suc h.1, (λ t. h.2 t + h.2 t) ∙ twice h.0 h.1, h.3, l)

-- between a number and the same doubled k times, each double is held
pub doubled_held : (n k : ℕ) → Held n → n * 2 ^ k < 2 ^ 2098 → Held (n * 2 ^ k)
doubled_held n k h l = (h.0, h.1 + k, ap (λ (z : ℕ). z * 2 ^ k) h.2 ∙ mul_assoc h.0 (2 ^ h.1) (2 ^ k) ∙ ap (λ (z : ℕ). h.0 * z) (sym (pow-add 2 h.1 k)), h.3, l)

pub doubled_more : (m n : ℕ) → IsDoubled m n → IsDoubled m (n + n)
doubled_more m n d = (suc d.0, (λ t. d.1 t + d.1 t) ∙ twice m d.0)

pub doubled_ge : (m n : ℕ) → IsDoubled m n → m ≤ n
doubled_ge m n d = go d.0 d.1
  where
    go : (k : ℕ) → n ≡ m * 2 ^ k → m ≤ n
    go k e = let p = pow_pos k in subst (λ (x : ℕ). m ≤ x) (sym e) (subst (λ (x : ℕ). x ≤ m * 2 ^ k) (mul-one m) (native.Mathlib.Nat.mul-le-mul_left m p))

-- one that is more than m was doubled once at least
pub doubled_half : (m n : ℕ) → IsDoubled m n → m < n → (c : ℕ) × (n ≡ c + c) × IsDoubled m c
doubled_half m n d l = go d.0 d.1
  where
    go : (k : ℕ) → n ≡ m * 2 ^ k → (c : ℕ) × (n ≡ c + c) × IsDoubled m c
    go zero e = absurd (native.Mathlib.Nat.lt_irrefl m (subst (λ (x : ℕ). m < x) (e ∙ mul-one m) l))
    go (suc k) e = (m * 2 ^ k, e ∙ sym (twice m k), (k, refl))

-- the remainder by a divisor does not see a remainder by its double
pub mod_twice : (x c : ℕ) → 0 < c → x % (c + c) % c ≡ x % c
mod_twice x c h =
    let e : x ≡ x % (c + c) + x / (c + c) * 2 * c = omega (arith, div-add-mod' x (c + c)) in
    sym (ap (λ (z : ℕ). z % c) e ∙ add-mul-mod_self_right (x % (c + c)) (x / (c + c) * 2) c)

-- the remainder of a number below two divisors
pub mod_under : (a b : ℕ) → b ≤ a → a < 2 * b → a - b ≡ a % b
mod_under a b l m = sym (native.Mathlib.Nat.mod-eq-sub-mod l ∙ mod-eq_of_lt (under a b m))
