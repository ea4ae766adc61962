-- Every operand's number is below its user's, and a left operand's below the right one's.
use Rattle.std.specs.Prelude.{ℕ, ◌+◌, ◌≤◌, ◌<◌, pred, ◌≡◌, List, [], ◌∷◌}
use native.Mathlib.Omega.{arith}
use Rattle.std.proofs.Math.Path.{refl, sym, ap}
use Rattle.std.proofs.Common.{◌∙◌}
use Rattle.std.proofs.Math.Logic.{inl, inr}
use Rattle.std.proofs.Math.ListN.{length}
use Rattle.rules.specs.Ast.{Plain}
use Rattle.rules.specs.Plan.{Built, Plan}
use Rattle.rules.specs.Cells.{Cell, binary, plan_cells}
use Rattle.claims.specs.Cells.Numbers.{Between, between_none, between_join, between_next}
use Rattle.claims.specs.Cells.Operands.{cell_at, operands, Uses, operands-binary, uses-none, uses-one, uses-two}
use Rattle.claims.specs.Cells.Operands.{user-below}
use Rattle.claims.specs.Cells.Comparisons.{Comparison, comparison, ComparisonCells}
use Rattle.claims.specs.Cells.Blocks.{Steps, of-plan}

-- OPERANDS BEFORE THEIR USER
-- cell j uses numbers from n up to j only
unfoldable pub Below : List Cell → ℕ → ℕ → Type 0
Below cs n j = (i : ℕ) → Uses (cell_at cs j) i → (n ≤ i) × (i < j)

-- so do the cells from n up to m
unfoldable pub Within : List Cell → ℕ → ℕ → Type 0
Within cs n m = Between (Below cs n) n m

module _ (cs : List Cell) where
  below_two : (n j a b : ℕ) → operands (cell_at cs j) ≡ a ∷ b ∷ [] → (n ≤ a) × (a < j) → (n ≤ b) × (b < j) → Below cs n j
  unfolding Below
  below_two n j a b e f g i u = elim (uses-two _ i a b e u) [ inl p ↦ rw p f | inr p ↦ rw p g ]

  pub within-join : (n k m : ℕ) → n ≤ k → Within cs n k → Within cs k m → Within cs n m
  unfolding Within Below
  within-join n k m h f g = between_join _ n k m f λ j l r i u. let b = g j l r i u in omega arith

  -- the steps
  pub within-leaf : (n : ℕ) → operands (cell_at cs n) ≡ [] → Within cs n (n + 1)
  unfolding Within Below
  within-leaf n e = between_next _ n n _ refl (between_none _ n) λ i u. absurd (uses-none _ i e u)

  pub within-one : (n m : ℕ) → n < m → operands (cell_at cs m) ≡ pred m ∷ [] → Within cs n m → Within cs n (m + 1)
  unfolding Within Below
  within-one n m h e f = between_next _ n m _ refl f λ i u. let p = uses-one _ i (pred m) e u in omega arith

  pub within-two : (n k m : ℕ) → n < k → k < m → operands (cell_at cs m) ≡ pred k ∷ pred m ∷ []
      → Within cs n k → Within cs k m → Within cs n (m + 1)
  unfolding Within
  within-two n k m h l e f g = between_next _ n m _ refl (within-join n k m (omega arith) f g)
      (below_two n m _ _ e (omega arith) (omega arith))

  pub within-compared : (n k m : ℕ) (s : Plain) → n < k → k < m → ComparisonCells cs (comparison s m (pred k) (pred m))
      → Within cs n k → Within cs k m → Within cs n (m + 3)
  unfolding Within
  within-compared n k m s h l c f g =
      let first = within-two n k m h l (operands-binary c.compares) f g in
      let second = between_next _ n (m + 1) (m + 2) (omega arith) first
      (below_two n (m + 1) (pred k) (pred m) (operands-binary c.equals) (omega arith) (omega arith)) in
      between_next _ n (m + 2) (m + 3) (omega arith) second
      (below_two n (m + 2) m (m + 1) (operands-binary c.joins) (omega arith) (omega arith))

  within-steps : (ds : List Comparison) → Steps cs ds (Within cs) (λ n m rs. Within cs n m)
  unfolding Within
  within-steps ds = record {
    leaf = within-leaf;
    one = within-one;
    two = within-two;
    compared = λ n k m s h l t. within-compared n k m s h l;
    end = λ n. between_none _ n;
    more = λ n k m rs h l f g. within-join n k m (omega arith) f g;
  }

-- every operand's number is below its user's
pub operands-below : (p : Plan Built) (j i : ℕ) → j < length (plan_cells p) → Uses (cell_at (plan_cells p) j) i → i < j
unfolding Within Below
operands-below p j i h u = (of-plan p _ _ (within-steps (plan_cells p) _) j (omega arith) h i u).1

-- LEFT BEFORE RIGHT
-- where cell j has two operands, the left one stands before the right one, and both before it
LeftFirst : List Cell → ℕ → Type 0
LeftFirst cs j = (o : Plain) (x y : ℕ) → cell_at cs j ≡ binary o x y → (x < y) × (y < j)

module _ (cs : List Cell) where
  -- so do the cells from n up to m
  Lefts : ℕ → ℕ → Type 0
  Lefts n m = Between (LeftFirst cs) n m

  left-none : (j : ℕ) (is' : List ℕ) → operands (cell_at cs j) ≡ is' → length is' < 2 → LeftFirst cs j
  unfolding LeftFirst
  left-none j is' e h o x y f = absurd (let n = ap length (sym (operands-binary f) ∙ e) in omega arith)

  left-two : (j a b : ℕ) → operands (cell_at cs j) ≡ a ∷ b ∷ [] → a < b → b < j → LeftFirst cs j
  unfolding LeftFirst
  left-two j a b e h l o x y f =
      let n = sym (operands-binary f) ∙ e in
      let p : x ≡ a = cc in
      let q : y ≡ b = cc in
      omega arith

  next : (n m k : ℕ) → k ≡ m + 1 → Lefts n m → LeftFirst cs m → Lefts n k
  unfolding Lefts
  next n m k e f g = between_next _ n m k e f g

  join : (n k m : ℕ) → Lefts n k → Lefts k m → Lefts n m
  unfolding Lefts
  join n k m f g = between_join _ n k m f g

  none_yet : (n : ℕ) → Lefts n n
  unfolding Lefts
  none_yet n = between_none _ n

  left-steps : (ds : List Comparison) → Steps cs ds Lefts (λ n m rs. Lefts n m)
  left-steps ds = record {
    leaf = λ n e. next n n _ refl (none_yet n) (left-none n _ e (omega arith));
    one = λ n m h e f. next n m _ refl f (left-none m _ e (omega arith));
    two = λ n k m h l e f g. next n m _ refl (join n k m f g) (left-two m _ _ e (omega arith) (omega arith));
    compared = λ n k m s h l t c f g.
        let first = next n m (m + 1) refl (join n k m f g)
        (left-two m (pred k) (pred m) (operands-binary c.compares) (omega arith) (omega arith)) in
        let second = next n (m + 1) (m + 2) (omega arith) first
        (left-two (m + 1) (pred k) (pred m) (operands-binary c.equals) (omega arith) (omega arith)) in
        next n (m + 2) (m + 3) (omega arith) second
        (left-two (m + 2) m (m + 1) (operands-binary c.joins) (omega arith) (omega arith));
    end = none_yet;
    more = λ n k m rs h l f g. join n k m f g;
  }

-- a cell of two operands has the left one before the right one, and both before itself
pub left-before-right : (p : Plan Built) (j : ℕ) (o : Plain) (x y : ℕ) → cell_at (plan_cells p) j ≡ binary o x y
    → (x < y) × (y < j)
unfolding Lefts LeftFirst
left-before-right p j o x y e =
    of-plan p _ _ (left-steps (plan_cells p) _) j (omega arith) (user-below (plan_cells p) j (operands-binary e)) o x y e
