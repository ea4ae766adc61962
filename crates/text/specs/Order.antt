-- Two byte strings compared: whether they are the same, and which is first.
use Rattle.std.specs.Prelude.{ℕ, suc, ◌+◌, ◌-◌, ◌≤◌, ◌<◌, ◌≡◌, refl, Bool, true, false, [], ◌∷◌, eqb, length, get_or, drop}
use native.Mathlib.Omega.{arith}
use Rattle.std.proofs.Math.Decide.{dec_lt}
use Rattle.std.proofs.Common.{sym, ap, ◌∙◌}
use Rattle.std.proofs.Math.ListN.{drop_of_length-le}
use borrow.Author.Tests.{eq-eqb, ne_eqb, lt-ltb, le-ltb}
use Rattle.std.proofs.lemmas.Bool.{false≢true}
use Rattle.rules.specs.Lists.{Bytes, same, before}
pub use Rattle.numbers.specs.Same.{same_true}
use Rattle.text.specs.Bytes.{step}
use Rattle.std.specs.declared.cmp.Ordering.{Ordering}
use Rattle.std.specs.declared.cmp.Ordering.TheVariants.{Less, Equal, Greater}
use Rattle.std.specs.Ordering.{is_lt, is_eq, is_gt, nat_cmp}
use Rattle.std.specs.Cmp.Lexicographic.{slice_cmp}

-- the order of two byte strings, by whether the first is before the second and whether they are the same
unfoldable pub order_by : Bool → Bool → Ordering
order_by true s = Less
order_by false true = Equal
order_by false false = Greater

unfoldable pub order_of : Bytes → Bytes → Ordering
order_of x y = order_by (before x y) (same x y)

-- EQUALITY
pub same_self : (xs : Bytes) → same xs xs ≡ true
unfolding same
same_self [] = refl
same_self (x ∷ xs) = rw (same, eq-eqb x x refl) (same_self xs)

pub differ : (xs ys : Bytes) → (xs ≡ ys → ⊥) → same xs ys ≡ false
differ xs ys h = go (same xs ys) refl
  where
    go : (b : Bool) → same xs ys ≡ b → b ≡ false
    go true e = absurd (h (same_true xs ys e))
    go false e = refl

-- whichever stands first
pub same-swap : (xs ys : Bytes) → same xs ys ≡ same ys xs
same-swap xs ys = go (same ys xs) refl
  where
    go : (b : Bool) → same ys xs ≡ b → same xs ys ≡ b
    go true e = rw (same_true ys xs e) (same_self xs)
    go false e = differ xs ys (λ z. false≢true (sym e ∙ (rw z (same_self ys))))

-- THE FIRST BYTES
module _ (x y : ℕ) (xs ys : Bytes) where
  same_first : x ≡ y → same (x ∷ xs) (y ∷ ys) ≡ same xs ys
  unfolding same
  same_first e = rw (same, eq-eqb _ _ e)

  differ-first : (x ≡ y → ⊥) → same (x ∷ xs) (y ∷ ys) ≡ false
  unfolding same
  differ-first e = rw (same, ne_eqb _ _ e)

  before_same : x ≡ y → before (x ∷ xs) (y ∷ ys) ≡ before xs ys
  unfolding before
  before_same e = let l : y ≤ x = omega arith in rw (before, le-ltb _ _ l, eq-eqb _ _ e)

  before-less : x < y → before (x ∷ xs) (y ∷ ys) ≡ true
  unfolding before
  before-less e = rw (before, lt-ltb _ _ e)

  before_more : y < x → before (x ∷ xs) (y ∷ ys) ≡ false
  unfolding before
  before_more e =
      let l : y ≤ x = omega arith in
      let n : x ≡ y → ⊥ = λ q. omega (arith, q) in
      rw (before, le-ltb _ _ l, ne_eqb _ _ n)

  order_same : x ≡ y → order_of (x ∷ xs) (y ∷ ys) ≡ order_of xs ys
  unfolding order_of
  order_same e = rw (before_same e, same_first e)

  order-less : x < y → order_of (x ∷ xs) (y ∷ ys) ≡ Less
  unfolding order_of order_by
  order-less e = rw (before-less e)

  order-more : y < x → order_of (x ∷ xs) (y ∷ ys) ≡ Greater
  unfolding order_of order_by
  order-more e = let n : x ≡ y → ⊥ = λ q. omega (arith, q) in rw (before_more e, differ-first n)

-- THE BYTES FROM A POSITION ON
pub same-lengths : (x y : Bytes) → (length x ≡ length y → ⊥) → same x y ≡ false
unfolding same
same-lengths [] [] h = absurd (h refl)
same-lengths [] (y ∷ ys) h = refl
same-lengths (x ∷ xs) [] h = refl
same-lengths (x ∷ xs) (y ∷ ys) h = go (eqb x y) refl (same-lengths xs ys (λ e. h (ap suc e)))
  where
    go : (b : Bool) → eqb x y ≡ b → same xs ys ≡ false → same (x ∷ xs) (y ∷ ys) ≡ false
    go true e ih = rw (same, e) ih
    go false e ih = rw (same, e)

-- THE SAME FROM A POSITION ON
pub record Alike (x y : Bytes) (i : ℕ) : Type 0 where
  pub lengths : length x ≡ length y
  pub within : i ≤ length x
  pub rest : same (drop i x) (drop i y) ≡ true

pub alike-begin : (x y : Bytes) → length x ≡ length y → Alike x y (length x)
unfolding same
alike-begin x y h =
    let l : length x ≤ length x = omega arith in
    let m : length y ≤ length x = omega arith in
    record { lengths = h; within = l; rest = rw (drop_of_length-le x l, drop_of_length-le y m) }

pub alike-step : (x y : Bytes) (i : ℕ) → 0 < i → Alike x y i → get_or x (i - 1) 0 ≡ get_or y (i - 1) 0 → Alike x y (i - 1)
alike-step x y i h a e =
    let f : i - 1 + 1 ≡ i = omega arith in
    let l : i - 1 < length x = omega (arith, a.within) in
    let m : i - 1 < length y = omega (arith, a.within, a.lengths) in
    record { lengths = a.lengths; within = omega (arith, a.within); rest = rw (step x (i - 1) l, step y (i - 1) m, f) (same_first _ _ _ _ e ∙ a.rest) }

pub differ-at : (x y : Bytes) (i : ℕ) → (get_or x i 0 ≡ get_or y i 0 → ⊥) → same x y ≡ false
differ-at x y i h = go (same x y) refl
  where
    go : (b : Bool) → same x y ≡ b → b ≡ false
    go false e = refl
    go true e = absurd (h (ap (λ l. get_or l i 0) (same_true x y e)))

-- WHAT EACH ORDER SAYS
-- what holds of two byte strings whose order is o
pub record Ordered (x y : Bytes) (o : Ordering) : Type 0 where
  pub less : before x y ≡ is_lt o
  pub equal : same x y ≡ is_eq o
  pub greater : before y x ≡ is_gt o

pub ordered : (x y : Bytes) → Ordered x y (order_of x y)
unfolding order_of order_by before same
ordered [] [] = record { less = refl; equal = refl; greater = refl }
ordered [] (y ∷ ys) = record { less = refl; equal = refl; greater = refl }
ordered (x ∷ xs) [] = record { less = refl; equal = refl; greater = refl }
ordered (x ∷ xs) (y ∷ ys) = elim (dec_lt x y) [
  | yes p ↦ first (omega (arith, p))
  | no p ↦ elim (dec_lt y x) [ yes q ↦ second (omega (arith, q)) | no q ↦ neither (omega (arith, p, q)) (ordered xs ys) ]
]
  where
    first : x < y → Ordered (x ∷ xs) (y ∷ ys) (order_of (x ∷ xs) (y ∷ ys))
    first h = let n : x ≡ y → ⊥ = λ e. omega (arith, e) in
        rw (order-less x y xs ys h) (record { less = before-less x y xs ys h; equal = differ-first x y xs ys n; greater = before_more y x ys xs h })

    second : y < x → Ordered (x ∷ xs) (y ∷ ys) (order_of (x ∷ xs) (y ∷ ys))
    second h = let n : x ≡ y → ⊥ = λ e. omega (arith, e) in
        rw (order-more x y xs ys h) (record { less = before_more x y xs ys h; equal = differ-first x y xs ys n; greater = before-less y x ys xs h })

    neither : x ≡ y → Ordered xs ys (order_of xs ys) → Ordered (x ∷ xs) (y ∷ ys) (order_of (x ∷ xs) (y ∷ ys))
    neither e r =
        rw (order_same x y xs ys e) (record { less = before_same x y xs ys e ∙ r.less; equal = same_first x y xs ys e ∙ r.equal; greater = before_same y x ys xs (sym e) ∙ r.greater })

-- the order of std
pub order-std : (x y : Bytes) → slice_cmp nat_cmp x y ≡ order_of x y
unfolding order_of order_by before same
order-std [] [] = refl
order-std [] (y ∷ ys) = refl
order-std (x ∷ xs) [] = refl
order-std (x ∷ xs) (y ∷ ys) = elim (dec_lt x y) [
  | yes p ↦ first (omega (arith, p))
  | no p ↦ elim (dec_lt y x) [ yes q ↦ second (omega (arith, q)) | no q ↦ neither (omega (arith, p, q)) (order-std xs ys) ]
]
  where
    first : x < y → slice_cmp nat_cmp (x ∷ xs) (y ∷ ys) ≡ order_of (x ∷ xs) (y ∷ ys)
    first h = rw (lt-ltb x y h, order-less x y xs ys h)

    second : y < x → slice_cmp nat_cmp (x ∷ xs) (y ∷ ys) ≡ order_of (x ∷ xs) (y ∷ ys)
    second h = let l : y ≤ x = omega arith in let n : x ≡ y → ⊥ = λ e. omega (arith, e) in rw (le-ltb x y l, ne_eqb x y n, order-more x y xs ys h)

    neither : x ≡ y → slice_cmp nat_cmp xs ys ≡ order_of xs ys → slice_cmp nat_cmp (x ∷ xs) (y ∷ ys) ≡ order_of (x ∷ xs) (y ∷ ys)
    neither e r = let l : y ≤ x = omega arith in rw (le-ltb x y l, eq-eqb x y e, order_same x y xs ys e) r
