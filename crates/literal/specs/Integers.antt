-- Integers in text, by their sign and their decimal.
use Rattle.std.specs.Prelude.{◌≡◌, ℕ, suc, ◌+◌, ◌-◌, ◌%◌, ◌^◌, ◌<◌, ◌≤◌, min, [], ◌∷◌, length, take, drop, ℤ, pos, ◌≢◌, slice_index, slice_index_or}
use Rattle.std.proofs.Common.{arith, sym, ap}
use Rattle.std.proofs.Math.Option.{Option, none, some}
use Rattle.std.proofs.Math.Seq.{take_all}
use borrow.Author.Tests.{le-leb, lt-leb, eq-eqb, ne_eqb}
use Rattle.rules.specs.Lists.{Bytes, map_option}
use Rattle.rules.specs.Lines.{within, negated, decimal, integer}
use Rattle.text.specs.Numbers.{within-min}
use Rattle.numbers.specs.Bits.{signed, signed_low, signed_high}

-- the greatest integer
abbrev pub greatest : ℕ
greatest = 9223372036854775807

module _ (m : ℕ) where
  pub positive-large : greatest < m → map_option {A = ℕ} {B = ℤ} signed none ≡ map_option pos (within greatest (some m))
  unfolding map_option within
  positive-large h = rw (within, lt-leb m greatest h)

  pub positive-in : m ≤ greatest → map_option signed (some m) ≡ map_option pos (within greatest (some m))
  unfolding map_option within
  positive-in h = rw (within, le-leb m greatest h, signed_low m (omega arith))

  pub negative-large : greatest + 1 < m → map_option {A = ℕ} {B = ℤ} signed none ≡ negated (within (greatest + 1) (some m))
  unfolding map_option within negated
  negative-large h = rw (within, lt-leb m (greatest + 1) h)

  pub negative-zero : m ≡ 0 → map_option {A = ℕ} {B = ℤ} signed none ≡ negated (within (greatest + 1) (some m))
  unfolding map_option within negated
  negative-zero h = rw h

  pub negative-in : (n : ℕ) → m ≤ greatest + 1 → (m ≢ 0) → (n + m) % 2 ^ 64 ≡ 0 → n < 2 ^ 64 → map_option signed (some n) ≡ negated (within (greatest + 1) (some m))
  unfolding map_option within negated
  negative-in n h z f l =
      let k : m ≡ suc (m - 1) = omega (arith, z) in
      let q : 2 ^ 64 - suc n ≡ m - 1 = omega (arith, z) in
      rw (within, le-leb m (greatest + 1) h, signed_high n (omega arith), q) (ap negated (ap some (sym k)))

-- BY THE SIGN
module _ (x : Bytes) (d : Option ℕ) where
  pub integer-minus : 0 < length x → slice_index_or x 0 0 ≡ 45 → d ≡ map_option (min (greatest + 2)) (decimal (take (length x - 1) (drop 1 x))) → negated (within (greatest + 1) d) ≡ integer x
  unfolding integer
  integer-minus z e v = go x z e v
    where
      go : (x : Bytes) → 0 < length x → slice_index x 0 ≡ 45 → d ≡ map_option (min (greatest + 2)) (decimal (take (length x - 1) (drop 1 x))) → negated (within (greatest + 1) d) ≡ integer x
      go [] k f w = absurd (omega arith)
      go (y ∷ ys) k f w =
          let t : take (suc (length ys) - 1) ys ≡ ys = take_all _ ys (omega arith) in
          rw (w, t, within-min (greatest + 1) (greatest + 2) (decimal ys) (omega arith), integer, eq-eqb y 45 f)

  pub integer-plain : (0 < length x → slice_index x 0 ≡ 45 → ⊥) → d ≡ map_option (min (greatest + 2)) (decimal x) → map_option pos (within greatest d) ≡ integer x
  unfolding integer decimal map_option within
  integer-plain e v = go x e v
    where
      go : (x : Bytes) → (0 < length x → slice_index x 0 ≡ 45 → ⊥) → d ≡ map_option (min (greatest + 2)) (decimal x) → map_option pos (within greatest d) ≡ integer x
      go [] f w = rw w
      go (y ∷ ys) f w = rw (w, within-min greatest (greatest + 2) (decimal (y ∷ ys)) (omega arith), integer, ne_eqb y 45 (f (omega arith)))
