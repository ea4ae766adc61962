-- Every literal that is read fits 64 bits.
use Rattle.std.specs.Prelude.{ℕ, zero, suc, ◌+◌, ◌*◌, ◌^◌, ◌≤◌, ◌<◌, ◌≡◌, refl, Bool, true, false, ◌&&◌, [], ◌∷◌, eqb, leb, length, pos}
use Rattle.std.proofs.Common.{arith, leb→le, eqb-true}
use Rattle.std.proofs.Math.Option.{Option, none, some}
use Rattle.std.specs.Int.Signed.{mag}
use Rattle.rules.specs.Lists.{Bytes, map_option}
use Rattle.rules.specs.Lines.{Word, digit, decimal, within, negated, integer, hex_digit, hex_digits}
use Rattle.rules.specs.Lines as Lines
use Rattle.rules.specs.Schema.{Value, bool, int, float, text}
use Rattle.rules.specs.Reader.{word, no_field, flags, literals}
use Rattle.claims.specs.Answers.{All, Given}
use Rattle.claims.specs.Lists.{given-map, given-mapped}
use Rattle.claims.specs.Reading.Fields.{Makes, makes_one}
use Rattle.claims.specs.Values.Outcomes.{Kept}

-- INTEGERS
within-most : (b : ℕ) (o : Option ℕ) → Given (λ n. n ≤ b) (within b o)
unfolding within Given
within-most b none = tt
within-most b (some n) = go (leb n b) refl
  where
    go : (k : Bool) → leb n b ≡ k → Given (λ m. m ≤ b) (elim k [ true ↦ some n | false ↦ none ])
    go true e = leb→le n b (rw e tt)
    go false e = tt

negated_fits : (o : Option ℕ) → Given (λ n. n ≤ 2 ^ 63) o → Given (λ z. mag z < 2 ^ 63) (negated o)
unfolding negated Given
negated_fits none h = tt
negated_fits (some zero) h = tt
negated_fits (some (suc n)) h = h

integer-fits : (b : Bytes) → Given (λ z. mag z < 2 ^ 63) (integer b)
unfolding integer Given
integer-fits [] = tt
integer-fits (x ∷ xs) = go (eqb x 45)
  where
    go : (k : Bool) → Given (λ z. mag z < 2 ^ 63) (elim k [ true ↦ negated (within 9223372036854775808 (decimal xs)) | false ↦ map_option pos (within 9223372036854775807 (decimal (x ∷ xs))) ])
    go true = negated_fits _ (within-most 9223372036854775808 (decimal xs))
    go false = given-map pos _ _ (λ n h. omega arith) _ (within-most 9223372036854775807 (decimal (x ∷ xs)))

-- FLOATS
-- what a test of two bounds lets through
between : (l m x : ℕ) (P : ℕ → Type 0) (o : Option ℕ) (k : ℕ) → (l ≤ x → x ≤ m → P k) → Given P o → Given P (elim (leb l x && leb x m) [ true ↦ some k | false ↦ o ])
unfolding Given
between l m x P o k h g = go (leb l x) (leb x m) refl refl
  where
    go : (a b : Bool) → leb l x ≡ a → leb x m ≡ b → Given P (elim (a && b) [ true ↦ some k | false ↦ o ])
    go true true d e = h (leb→le l x (rw d tt)) (leb→le x m (rw e tt))
    go true false d e = g
    go false true d e = g
    go false false d e = g

hex_digit-below : (x : ℕ) → Given (λ d. d < 16) (hex_digit x)
unfolding hex_digit digit Given
hex_digit-below x = between 97 102 x _ _ _ (λ a b. omega arith) (between 48 57 x _ _ _ (λ a b. omega arith) tt)

-- k times 16, n times
sixteens : ℕ → ℕ → ℕ
sixteens k zero = k
sixteens k (suc n) = sixteens (k * 16) n

hex_digits-below : (b : Bytes) (k n : ℕ) → n < k → Given (λ m. m < sixteens k (length b)) (hex_digits n b)
unfolding hex_digits sixteens Given
hex_digits-below [] k n h = h
hex_digits-below (x ∷ xs) k n h = go (hex_digit x) (hex_digit-below x) (λ d l. hex_digits-below xs (k * 16) (n * 16 + d) (omega arith))
  where
    go : (o : Option ℕ) → Given (λ d. d < 16) o → ((d : ℕ) → d < 16 → Given (λ m. m < sixteens (k * 16) (length xs)) (hex_digits (n * 16 + d) xs))
        → Given (λ m. m < sixteens (k * 16) (length xs)) (elim o [ none ↦ none | some d ↦ hex_digits (n * 16 + d) xs ])
    go none l f = tt
    go (some d) l f = f d l

float_fits : (b : Bytes) → Given (λ n. n < 2 ^ 64) (Lines.float b)
unfolding Lines.float Given sixteens
float_fits b = go (eqb (length b) 16) refl
  where
    go : (k : Bool) → eqb (length b) 16 ≡ k → Given (λ n. n < 2 ^ 64) (elim k [ true ↦ hex_digits 0 b | false ↦ none ])
    go true e = rw (eqb-true (length b) 16 e) at (hex_digits-below b 1 0 (omega arith))
    go false e = tt

-- LITERALS
module _ (F : Word → Type 0) (Q : Value → Type 0) (kept : Kept Q) (texts : (w : Word) → F w → Q (text w)) where
  -- a literal record's value has what operators keep, where its text does
  pub literals-make : All (λ e. Makes F e.1 Q) literals
  unfolding literals All Given
  literals-make = (
    λ r h. given-mapped _ Q (λ u. kept.nulls) (no_field r),
    (
      makes_one F _ Q (λ w h. given-mapped bool Q kept.truths (word flags w)),
      (
        makes_one F _ Q (λ w h. given-map int _ Q kept.within _ (integer-fits w.bytes)),
        (
          makes_one F _ Q (λ w h. given-map float _ Q kept.floats _ (float_fits w.bytes)),
          (
            makes_one F _ Q texts,
            tt,
          ),
        ),
      ),
    ),
  )
