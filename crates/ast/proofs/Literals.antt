-- Literals by their kinds: those of two kinds differ, those of one are the same when their numbers or bytes are.
use Prim.Native.Nat.{ℕ, suc, ◌+◌, ◌*◌, ◌-◌, ◌^◌, ◌<◌}
use native.Mathlib.Omega.{arith}
use mathlib.Core.Path.{◌≡◌, refl, sym, ap, ◌∙◌}
use mathlib.Core.Bool.{Bool, true, false, beq}
use mathlib.Core.List.{List, head_d}
use mathlib.Core.Logic.{◌⊎◌, ⊎_elim}
use lib.Dec.{eqb}
use lib.IntN.{ℤ, pos, negsuc}
use lib.ListN.{get_or}
use Rattle.std.proofs.lemmas.Bool.{false_from_ne_true}
use borrow.Author.Tests.{eqb-true, eqb-false, eq-eqb, ne_eqb}
use Rattle.rules.specs.Lists.{Bytes, same}
use Rattle.rules.specs.Schema.{bool, int, float}
use Rattle.rules.specs.Equality.{contents, same_value}
use Rattle.text.specs.Order.{same_true, same_self}
use Rattle.rules.specs.Area.{bits}
use Rattle.numbers.specs.Bits.{joined, joined_small, signed, bits-signed}
use Rattle.numbers.specs.Values.{is_one}
use Rattle.numbers.specs.Literals.{kind_number, kind_at, kind-back, literal_of}
use Rattle.numbers.specs.declared.literals.LiteralKind.{LiteralKind}
use Rattle.numbers.specs.declared.literals.LiteralKind.TheVariants as L

-- a literal's kind is the first number of its contents
value-kind : (l : LiteralKind) (c q : Bytes) (a b : ℕ) → head_d (contents (literal_of l c q a b)) 0 ≡ kind_number l
unfolding literal_of kind_number contents head_d
value-kind L.Null c q a b = refl
value-kind L.Bool c q a b = flag (is_one a)
  where
    flag : (x : Bool) → head_d (contents (bool x)) 0 ≡ 2
    flag true = refl
    flag false = refl
value-kind L.Int c q a b = whole (signed (joined a b))
  where
    whole : (z : ℤ) → head_d (contents (int z)) 0 ≡ 3
    whole (pos n) = refl
    whole (negsuc n) = refl
value-kind L.Float c q a b = refl
value-kind L.Text c q a b = refl

module _ (c q : Bytes) (l m : LiteralKind) (a b x y : ℕ) where
  pub values-apart : (l ≡ m → ⊥) → same_value (literal_of l c q a b) (literal_of m c q x y) ≡ false
  unfolding same_value
  values-apart h = false_from_ne_true _ (λ e. h (sym (kind-back l) ∙ ap kind_at (numbers e) ∙ kind-back m))
    where
      numbers : same (contents (literal_of l c q a b)) (contents (literal_of m c q x y)) ≡ true → kind_number l ≡ kind_number m
      numbers e = sym (value-kind l c q a b) ∙ ap (λ (r : List ℕ). head_d r 0) (same_true _ _ e) ∙ value-kind m c q x y

-- FLAGS
pub flags : (b d : Bool) → same_value (bool b) (bool d) ≡ beq b d
unfolding same_value contents same
flags true true = refl
flags true false = refl
flags false true = refl
flags false false = refl

-- NUMBERS OF 64 BITS
-- an integer's bits by its contents
unfoldable bits_in : List ℕ → ℕ
bits_in r = elim (eqb (get_or r 1 0) 0) [ true ↦ get_or r 2 0 | false ↦ 2 ^ 64 - suc (get_or r 2 0) ]

bits_in_lem : (z : ℤ) → bits_in (contents (int z)) ≡ bits z
unfolding bits_in contents bits
bits_in_lem (pos n) = refl
bits_in_lem (negsuc n) = refl

ints : (m n : ℕ) → m < 2 ^ 64 → n < 2 ^ 64 → same_value (int (signed m)) (int (signed n)) ≡ eqb m n
unfolding same_value
ints m n h l = pick (eqb m n) refl
  where
    back : (n : ℕ) → n < 2 ^ 64 → bits_in (contents (int (signed n))) ≡ n
    back n h = bits_in_lem (signed n) ∙ bits-signed n h

    pick : (t : Bool) → eqb m n ≡ t → same_value (int (signed m)) (int (signed n)) ≡ t
    pick true e = ap (λ (k : ℕ). same_value (int (signed k)) (int (signed n))) (eqb-true _ _ e) ∙ same_self (contents (int (signed n)))
    pick false e = false_from_ne_true _ (λ s. eqb-false _ _ e (sym (back m h) ∙ ap bits_in (same_true _ _ s) ∙ back n l))

floats : (m n : ℕ) → same_value (float m) (float n) ≡ eqb m n
unfolding same_value contents same
floats m n = pick (eqb m n)
  where
    pick : (b : Bool) → elim b [ true ↦ true | false ↦ false ] ≡ b
    pick true = refl
    pick false = refl

-- integers and floats by the halves of their bits
module _ (c q : Bytes) (l : LiteralKind) (k : (l ≡ L.Int) ⊎ (l ≡ L.Float)) (a b x y : ℕ)
    (ha : a < 2 ^ 32) (hb : b < 2 ^ 32) (hx : x < 2 ^ 32) (hy : y < 2 ^ 32) where
  bits-same : same_value (literal_of l c q a b) (literal_of l c q x y) ≡ eqb (joined a b) (joined x y)
  unfolding literal_of
  bits-same = ⊎_elim (λ e. rw e (ints _ _ (joined_small a b ha hb) (joined_small x y hx hy))) (λ e. rw e (floats _ _)) k

  pub low-differ : (a ≡ x → ⊥) → same_value (literal_of l c q a b) (literal_of l c q x y) ≡ false
  unfolding joined
  low-differ h = bits-same ∙ ne_eqb (a + b * 2 ^ 32) (x + y * 2 ^ 32) (λ e. h (omega arith))

  pub low_same : a ≡ x → same_value (literal_of l c q a b) (literal_of l c q x y) ≡ eqb b y
  unfolding joined
  low_same h = bits-same ∙ pick (eqb b y) refl
    where
      pick : (t : Bool) → eqb b y ≡ t → eqb (a + b * 2 ^ 32) (x + y * 2 ^ 32) ≡ t
      pick true e = eq-eqb (a + b * 2 ^ 32) (x + y * 2 ^ 32) (omega (arith, eqb-true b y e))
      pick false e = ne_eqb (a + b * 2 ^ 32) (x + y * 2 ^ 32) (λ s. eqb-false b y e (omega arith))
