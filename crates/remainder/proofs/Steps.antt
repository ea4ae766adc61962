-- Sizes as numbers of steps: each operation that the code makes, on them.
use mathlib.Core.Path.{◌≡◌, refl, sym, ap, ◌∙◌, subst}
use mathlib.Core.Bool.{true, false, ◌&&◌, true≢false}
use Prim.Native.Nat.{ℕ, zero, suc, ◌+◌, ◌-◌, ◌*◌, ◌/◌, ◌%◌, ◌^◌, ◌≤◌, ◌<◌}
use native.Mathlib.Nat.{mul_assoc, mul_comm, mul-one, mul-div_cancel, div-one, lt_of_mul-lt-mul_right, mul-lt-mul_of_pos_right, lt_of_not-le, not-le_of_lt}
use native.Mathlib.Omega.{arith}
use lib.Dec.{T, ltb, leb, eqb, ltb→lt, leb→le}
use lib.IntN.{ℤ, pos, negsuc}
use lib.Pow.{pow-add, pow_pos, pow-lt}
use lib.Ieee.{Float, nan, inf, fin, binary64, up, down, round, fits}
use lib.Ieee.Fits.{down_pos, round-fits, and_l, and_r}
use lib.Ieee.Exact.{HasValue, round_exact}
use Rattle.core.proofs.num.Values.{same_value}
use Rattle.remainder.specs.Steps.{steps, is_size, IsSize}

-- n steps, with no more digits than the format has
abbrev pub Held : ℕ → Type 0
Held n = (q j : ℕ) × (n ≡ q * 2 ^ j) × (q < 2 ^ 53) × (n < 2 ^ 2098)

-- the float of n steps
abbrev pub at : ℕ → Float
at n = round binary64 false n (2 ^ 1074)

-- x is n steps
abbrev pub Is : Float → ℕ → Type 0
Is x n = HasValue x false n (2 ^ 1074)

-- ---- a float that the format holds

none : (e : ℤ) → 0 * up e * 2 ^ 1074 / down e ≡ 0
none e = ap (λ (z : ℕ). z / down e) {x = 0 * up e * 2 ^ 1074} {y = 0 * down e} (omega arith) ∙ mul-div_cancel 0 (down_pos e)

bounds : (m : ℕ) (e : ℤ) → T (fits binary64 (fin false (suc m) e)) → (suc m < 2 ^ 53) × (down e ≤ 2 ^ 1074) × (suc m * up e < 2 ^ 1024 * down e)
unfolding fits
bounds m e t =
    let A = eqb (suc m % 2) 1 in
    let B = ltb (suc m) (2 ^ 53) in
    let C = leb (down e) (2 ^ 1074) in
    let D = ltb (suc m * up e) (2 ^ 1024 * down e) in
    (ltb→lt _ _ (and_r A B (and_l (A && B) C (and_l (A && B && C) D t))), leb→le _ _ (and_r (A && B) C (and_l (A && B && C) D t)), ltb→lt _ _ (and_r (A && B && C) D t))

few : (k : ℕ) → 2 ^ suc k ≤ 2 ^ 1074 → suc k ≤ 1074
few k h = lib_le (lt_of_not-le (λ (g : 1075 ≤ suc k). not-le_of_lt (pow-lt {i = 1074} {j = suc k} g) h))
  where
    lib_le : suc k < 1075 → suc k ≤ 1074
    lib_le g = omega arith

apart : (k : ℕ) → suc k ≤ 1074 → 2 ^ 1074 ≡ 2 ^ (1074 - suc k) * 2 ^ suc k
apart k h = let e : 1074 ≡ 1074 - suc k + suc k = omega arith in ap (λ (z : ℕ). 2 ^ z) e ∙ pow-add 2 (1074 - suc k) (suc k)

top : 2 ^ 2098 ≡ 2 ^ 1024 * 2 ^ 1074
top = pow-add 2 1024 1074

held : (m : ℕ) (e : ℤ) → T (fits binary64 (fin false (suc m) e)) → Is (fin false (suc m) e) (suc m * up e * 2 ^ 1074 / down e) × Held (suc m * up e * 2 ^ 1074 / down e)
held m (pos k) t =
    let b = bounds m (pos k) t in
    let n : suc m * 2 ^ k * 2 ^ 1074 / 1 ≡ suc m * 2 ^ k * 2 ^ 1074 = div-one (suc m * 2 ^ k * 2 ^ 1074) in
    let small : suc m * 2 ^ k < 2 ^ 1024 = subst (λ (z : ℕ). suc m * 2 ^ k < z) (mul-one (2 ^ 1024)) b.2 in (
      (refl, sym n ∙ sym (mul-one _)),
      (
        suc m,
        k + 1074,
        n ∙ mul_assoc (suc m) (2 ^ k) (2 ^ 1074) ∙ ap (λ (z : ℕ). suc m * z) (sym (pow-add 2 k 1074)),
        b.0,
        subst (λ (z : ℕ). z < 2 ^ 2098) (sym n) (subst (λ (z : ℕ). suc m * 2 ^ k * 2 ^ 1074 < z) (sym top) (mul-lt-mul_of_pos_right small (pow_pos 1074))),
      ),
    )
held m (negsuc k) t =
    let b = bounds m (negsuc k) t in
    let l = few k b.1 in
    let c = 2 ^ (1074 - suc k) in
    let whole : suc m * 1 * 2 ^ 1074 ≡ suc m * c * 2 ^ suc k = ap (λ (z : ℕ). z * 2 ^ 1074) (mul-one (suc m)) ∙ ap (λ (z : ℕ). suc m * z) (apart k l) ∙ sym (mul_assoc (suc m) c (2 ^ suc k)) in
    let n : suc m * 1 * 2 ^ 1074 / 2 ^ suc k ≡ suc m * c = ap (λ (z : ℕ). z / 2 ^ suc k) whole ∙ mul-div_cancel (suc m * c) (pow_pos (suc k)) in
    let small : suc m * c * 2 ^ suc k < 2 ^ 2098 * 2 ^ suc k =
    subst (λ (z : ℕ). z < 2 ^ 2098 * 2 ^ suc k) whole
    (subst (λ (z : ℕ). suc m * 1 * 2 ^ 1074 < z) (mul_assoc (2 ^ 1024) (2 ^ suc k) (2 ^ 1074) ∙ ap (λ (z : ℕ). 2 ^ 1024 * z) (mul_comm (2 ^ suc k) (2 ^ 1074)) ∙ sym (mul_assoc (2 ^ 1024) (2 ^ 1074) (2 ^ suc k)) ∙ ap (λ (z : ℕ). z * 2 ^ suc k) (sym top))
    (mul-lt-mul_of_pos_right b.2 (pow_pos 1074))) in (
      (refl, whole ∙ ap (λ (z : ℕ). z * 2 ^ suc k) (sym n)),
      (suc m, 1074 - suc k, n, b.0, subst (λ (z : ℕ). z < 2 ^ 2098) (sym n) (lt_of_mul-lt-mul_right (2 ^ suc k) small)),
    )

-- what is finite and has a plus is as many steps as `steps` says
pub size : (x : Float) → T (fits binary64 x) → IsSize x → Is x (steps x) × Held (steps x)
unfolding steps is_size
size nan f s = absurd s
size (inf t) f s = absurd s
size (fin true m e) f s = absurd s
size (fin false zero e) f s = (
  (refl, sym (ap (λ (z : ℕ). z * down e) (none e) ∙ (omega arith))),
  (0, 0, none e, pow_pos 53, subst (λ (z : ℕ). z < 2 ^ 2098) (sym (none e)) (pow_pos 2098)),
)
size (fin false (suc m) e) f s = held m e f

-- and back
pub counted : (x : Float) (n : ℕ) → Is x n → IsSize x × (steps x ≡ n)
unfolding steps is_size
counted nan n v = absurd v
counted (inf t) n v = absurd v
counted (fin true m e) n v = absurd (true≢false v.0)
counted (fin false m e) n v = (tt, ap (λ (z : ℕ). z / down e) v.1 ∙ mul-div_cancel n (down_pos e))

-- ---- a number of steps that the format holds

pub exact : (n : ℕ) → Held n → Is (at n) n
exact n h =
    round_exact binary64 false n (2 ^ 1074) h.0 h.1 (pow_pos 1074) h.3 (subst (λ (z : ℕ). z < 2 ^ 2098) h.2 h.4) (ap (λ (z : ℕ). z * 2 ^ 1074) h.2)

pub itself : (x : Float) (n : ℕ) → T (fits binary64 x) → Held n → Is x n → x ≡ at n
itself x n f h v = same_value binary64 x (at n) false n f (round-fits binary64 false n (2 ^ 1074)) v (exact n h)

pub sized : (x : Float) → fits binary64 x ≡ true → IsSize x → Is x (steps x) × Held (steps x)
sized x f s = size x (subst T (sym f) tt) s
