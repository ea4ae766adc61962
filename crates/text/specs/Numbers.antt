-- Names by their length, and decimals of any length held within a bound.
use Rattle.std.specs.Prelude.{ℕ, suc, ◌+◌, ◌*◌, ◌-◌, ◌≤◌, ◌<◌, min, ◌≡◌, refl, Bool, true, false, ◌&&◌, [], ◌∷◌, leb, length, get_or, drop}
use Rattle.std.proofs.Common.{arith, sym, ap, ◌∙◌, drop_of_length-le, eq-eqb, ne_eqb}
use Rattle.std.proofs.Math.Nat.{min-eq_left, min-eq_right, min-le_left}
use Rattle.std.proofs.Math.Decide.{dec_lt}
use Rattle.std.proofs.Math.Option.{Option, none, some}
use Rattle.std.proofs.lemmas.Bool.{lt-leb}
use Rattle.std.specs.Char.{is_ascii_digit}
use Rattle.rules.specs.Limits.{most_name_bytes, most_cells}
use Rattle.rules.specs.Lists.{Bytes, map_option}
use Rattle.rules.specs.Lines.{Word, digit, digits, decimal, within}
use Rattle.rules.specs.Reader.{name, count_field}
use Rattle.text.specs.Bytes.{step}

-- NAMES
-- how many bytes a name may have
unfoldable pub is_name : ℕ → Bool
is_name n = leb 1 n && leb n most_name_bytes

pub name_in : (w : Word) → is_name (length w.bytes) ≡ true → name w ≡ some w
unfolding name is_name
name_in w h = rw (name, h)

pub name_out : (w : Word) → is_name (length w.bytes) ≡ false → name w ≡ none
unfolding name is_name
name_out w h = rw (name, h)

-- NUMBERS
-- one digit more, from the bound on or within it
push-min : (most v d : ℕ) → min most (v * 10 + d) ≡ min most (min most v * 10 + d)
push-min most v d = elim (dec_lt most v) [
  | yes y ↦ let h : most < v = omega (arith, y) in let m : most ≤ v = omega arith in let a : most ≤ v * 10 + d = omega arith in let b : most ≤ most * 10 + d = omega arith in rw (min-eq_left m, min-eq_left a, min-eq_left b)
  | no y ↦ let m : v ≤ most = omega (arith, y) in rw (min-eq_right m)
]

min-min : (most v : ℕ) → min most v ≡ min most (min most v)
min-min most v = elim (dec_lt most v) [
  | yes y ↦ let m : most ≤ v = omega (arith, y) in let r : most ≤ most = omega arith in rw (min-eq_left m, min-eq_left r)
  | no y ↦ let m : v ≤ most = omega (arith, y) in rw (min-eq_right m, min-eq_right m)
]

-- all digits more: what is above the bound stays there
digits-min : (most : ℕ) (xs : Bytes) (v : ℕ) → map_option (min most) (digits v xs) ≡ map_option (min most) (digits (min most v) xs)
unfolding digits map_option
digits-min most [] v = ap some (min-min most v)
digits-min most (x ∷ xs) v = go (digit x) refl (λ d. digits-min most xs (v * 10 + d) ∙ rw (push-min most v d) (sym (digits-min most xs (min most v * 10 + d))))
  where
    go : (o : Option ℕ) → digit x ≡ o → ((d : ℕ) → map_option (min most) (digits (v * 10 + d) xs) ≡ map_option (min most) (digits (min most v * 10 + d) xs))
        → map_option (min most) (digits v (x ∷ xs)) ≡ map_option (min most) (digits (min most v) (x ∷ xs))
    go none e ih = rw (digits, e)
    go (some d) e ih = rw (digits, e) (ih d)

-- THE LOOP OVER THE DIGITS
module _ (most v : ℕ) (x : Bytes) (i : ℕ) where
  pub digits_step : (w : ℕ) → i < length x → is_ascii_digit (get_or x i 0) ≡ true → w ≡ min most (v * 10 + (get_or x i 0 - 48))
      → map_option (min most) (digits w (drop (i + 1) x)) ≡ map_option (min most) (digits v (drop i x))
  unfolding digits digit
  digits_step w h d f = rw (f, step x i h, digits, digit, d) (sym (digits-min most (drop (i + 1) x) (v * 10 + (get_or x i 0 - 48))))

  pub digits-wrong : i < length x → is_ascii_digit (get_or x i 0) ≡ false → map_option (min most) (digits v (drop i x)) ≡ none
  unfolding digits digit map_option
  digits-wrong h d = rw (step x i h, digits, digit, d)

  pub digits-end : length x ≤ i → v ≤ most → some v ≡ map_option (min most) (digits v (drop i x))
  unfolding digits map_option
  digits-end h g = rw (drop_of_length-le x h, min-eq_right g)

-- DECIMALS BY THEIR FIRST DIGIT
pub decimal-empty : (x : Bytes) → length x ≡ 0 → decimal x ≡ none
unfolding decimal
decimal-empty [] h = refl
decimal-empty (x ∷ xs) h = absurd (omega arith)

pub decimal-needless : (x : Bytes) → 1 < length x → get_or x 0 0 ≡ 48 → decimal x ≡ none
unfolding decimal
decimal-needless [] h e = absurd (omega arith)
decimal-needless (x ∷ []) h e = absurd (omega arith)
decimal-needless (x ∷ (y ∷ xs)) h e = rw (decimal, eq-eqb _ _ e)

single : (x : ℕ) → decimal (x ∷ []) ≡ digits 0 (x ∷ [])
unfolding decimal digits
single x = go (digit x) refl
  where
    go : (o : Option ℕ) → digit x ≡ o → decimal (x ∷ []) ≡ digits 0 (x ∷ [])
    go none f = rw (decimal, digits, f)
    go (some d) f = let z : 0 * 10 + d ≡ d = omega arith in rw (decimal, digits, f, z)

pub decimal-digits : (x : Bytes) → 0 < length x → (1 < length x → get_or x 0 0 ≡ 48 → ⊥) → decimal x ≡ digits 0 x
unfolding decimal
decimal-digits [] h e = absurd (omega arith)
decimal-digits (x ∷ []) h e = single x
decimal-digits (x ∷ (y ∷ xs)) h e = rw (decimal, ne_eqb _ _ (e (omega arith)))

-- a bound below the one that the number was held within
pub within-min : (b most : ℕ) (o : Option ℕ) → b < most → within b (map_option (min most) o) ≡ within b o
unfolding within map_option
within-min b most none h = refl
within-min b most (some n) h = elim (dec_lt most n) [
  | yes y ↦ let m : most ≤ n = omega (arith, y) in let l : b < n = omega (arith, y) in rw (min-eq_left m, within, lt-leb most b h, lt-leb n b l)
  | no y ↦ let m : n ≤ most = omega (arith, y) in rw (min-eq_right m)
]

-- a count or a position is 513 at most
pub count_small : (w : Word) (k : ℕ) → some k ≡ count_field w → k ≤ most_cells + 1
unfolding count_field map_option
count_small w k e = go (decimal w.bytes) e
  where
    go : (o : Option ℕ) → some k ≡ map_option (min (suc most_cells)) o → k ≤ most_cells + 1
    go none f = absurd (cc f)
    go (some n) f = let x : k ≡ min (suc most_cells) n = cc f in omega (arith, min-le_left (suc most_cells) n)
