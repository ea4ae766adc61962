-- The cells of a plan are exactly those that its numbers reach, and so as many.
use Rattle.std.specs.Prelude.{ℕ, ◌+◌, ◌<◌, pred, ◌≡◌, length}
use Rattle.std.proofs.Common.{arith}
use Rattle.std.proofs.Math.Path.{refl}
use mathlib.Core.List.{List, [], ◌∷◌, Memᴰ}
use Rattle.rules.specs.Ast.{Plain}
use Rattle.rules.specs.Plan.{Built, Plan}
use Rattle.rules.specs.Cells.{Cell, plan_cells, plan_expressions, number_plan}
use Rattle.claims.specs.Cells.Numbers.{Between, between_none, between_join, between_next, NumberOf, number-below}
use Rattle.claims.specs.Cells.Operands.{cell_at, operands, Uses, operands-binary}
use Rattle.claims.specs.Cells.Comparisons.{Comparison, comparison, ComparisonCells}
use Rattle.claims.specs.Cells.Blocks.{Steps, of-plan, NumbersBetween, roots-between}
use Rattle.claims.specs.Cells.Order.{operands-below}

-- a cell is reached if it is a root, or an operand of a reached cell
pub data Reached (cs : List Cell) (rs : List ℕ) : ℕ → Type 0 where
  from : {i : ℕ} → Memᴰ i rs → Reached cs rs i
  by : {i j : ℕ} → Reached cs rs j → Uses (cell_at cs j) i → Reached cs rs i

module _ (cs : List Cell) (rs : List ℕ) where
  reached-is : (i j : ℕ) → i ≡ j → Reached cs rs i → Reached cs rs j
  reached-is i j e h = rw e at h

  operand : (j i : ℕ) {is' : List ℕ} → operands (cell_at cs j) ≡ is' → Memᴰ i is' → Reached cs rs j
      → Reached cs rs i
  unfolding Uses
  operand j i e m h = by {i = i} h (rw e m)

  -- a block is reached from its root
  FromRoot : ℕ → ℕ → Type 0
  FromRoot n m = Reached cs rs (pred m) → Between (Reached cs rs) n m

  -- several blocks from theirs
  FromRoots : ℕ → ℕ → List ℕ → Type 0
  FromRoots n m xs = ((i : ℕ) → Memᴰ i xs → Reached cs rs i) → Between (Reached cs rs) n m

  from-leaf : (n : ℕ) → operands (cell_at cs n) ≡ [] → FromRoot n (n + 1)
  unfolding FromRoot
  from-leaf n e h = between_next _ n n _ refl (between_none _ n) (reached-is _ n (omega arith) h)

  from_one : (n m : ℕ) → n < m → operands (cell_at cs m) ≡ pred m ∷ [] → FromRoot n m → FromRoot n (m + 1)
  unfolding FromRoot
  from_one n m l e f h =
      let r = reached-is _ m (omega arith) h in
      between_next _ n m _ refl (f (operand m (pred m) e (Memᴰ.head refl) r)) r

  from-two : (n k m : ℕ) → n < k → k < m → operands (cell_at cs m) ≡ pred k ∷ pred m ∷ []
      → FromRoot n k → FromRoot k m → FromRoot n (m + 1)
  unfolding FromRoot
  from-two n k m l l' e f g h =
      let r = reached-is _ m (omega arith) h in
      let left = f (operand m (pred k) e (Memᴰ.head refl) r) in
      let right = g (operand m (pred m) e (Memᴰ.tail (Memᴰ.head refl)) r) in
      between_next _ n m _ refl (between_join _ n k m left right) r

  from-compared : (n k m : ℕ) (t : Plain) → n < k → k < m → ComparisonCells cs (comparison t m (pred k) (pred m))
      → FromRoot n k → FromRoot k m → FromRoot n (m + 3)
  unfolding FromRoot
  from-compared n k m t l l' c f g h =
      let e = operands-binary c.joins in
      let r = reached-is _ (m + 2) (omega arith) h in
      let r₀ = operand (m + 2) m e (Memᴰ.head refl) r in
      let r₁ = operand (m + 2) (m + 1) e (Memᴰ.tail (Memᴰ.head refl)) r in
      let first = from-two n k m l l' (operands-binary c.compares) f g (reached-is m _ (omega arith) r₀) in
      between_next _ n (m + 2) (m + 3) (omega arith) (between_next _ n (m + 1) (m + 2) (omega arith) first r₁) r

  from-steps : (ds : List Comparison) → Steps cs ds FromRoot FromRoots
  unfolding FromRoot FromRoots
  from-steps ds = record {
    leaf = from-leaf;
    one = from_one;
    two = from-two;
    compared = λ n k m t l l' u. from-compared n k m t l l';
    end = λ n h. between_none _ n;
    more = λ n k m xs l l' f g h.
        between_join _ n k m (f (h (pred k) (Memᴰ.head refl))) (g (λ i t. h i (Memᴰ.tail t)));
  }

-- every cell is reached
pub reached-all : (p : Plan Built) (i : ℕ) → i < length (plan_cells p)
    → Reached (plan_cells p) (plan_expressions (number_plan p)) i
unfolding FromRoots
reached-all p i h =
    of-plan p _ _ (from-steps (plan_cells p) (plan_expressions (number_plan p)) _) (λ j m. from m) i (omega arith) h

-- and nothing else
pub reached-only : (p : Plan Built) (i : ℕ) → Reached (plan_cells p) (plan_expressions (number_plan p)) i
    → i < length (plan_cells p)
unfolding NumbersBetween
reached-only p i (from m) = (roots-between p i m).1
reached-only p i (by {j} h u) = let l = reached-only p j h in let b = operands-below p j i l u in omega arith

-- the cells are as many as the plan's numbers reach
pub reach-count : (p : Plan Built)
    → NumberOf (Reached (plan_cells p) (plan_expressions (number_plan p))) (length (plan_cells p))
reach-count p = number-below _ _ (reached-all p) (reached-only p)
