-- Which cells are shared: the operands of the `ge` and `le` of a plan's expressions, each by two cells, and no others.
use Rattle.std.specs.Prelude.{ℕ, ◌+◌, ◌<◌, pred, ◌≡◌, ◌⊎◌, ◌↔◌, length}
use Rattle.std.proofs.Common.{arith, inl, inr}
use Rattle.std.proofs.Math.Decide.{dec_lt, ℕ_discrete}
use mathlib.Core.List.{Memᴰ}
use Rattle.rules.specs.Plan.{Built, Plan}
use Rattle.rules.specs.Cells.{plan_cells, plan_expressions, number_plan}
use Rattle.claims.specs.Answers.{All}
use Rattle.claims.specs.Cells.Numbers.{Distinct}
use Rattle.claims.specs.Cells.Operands.{cell_at, operands, Uses, operands-binary, uses-two, uses-either}
use Rattle.claims.specs.Cells.Operands.{uses-decided}
use Rattle.claims.specs.Cells.Comparisons.{Comparison, plan_comparisons, ComparisonCells}
use Rattle.claims.specs.Cells.Blocks.{cells-compared}
use Rattle.claims.specs.Cells.Reach.{Reached, from, by, reached-all}
use Rattle.claims.specs.Cells.Pairs.{Pair, paired}

-- What uses cell i of a plan: a node and no cell; or one cell and no node; or, if it is an operand of a `ge` or `le` of
-- the plan's expressions, the first two cells of that and no node.
pub data Used (p : Plan Built) (i : ℕ) : Type 0 where
  by-node : Memᴰ i (plan_expressions (number_plan p)) → ((j : ℕ) → ¬ Uses (cell_at (plan_cells p) j) i) → Used p i
  by-cell : ¬ Memᴰ i (plan_expressions (number_plan p))
      → (k : ℕ) → ((j : ℕ) → Uses (cell_at (plan_cells p) j) i ↔ (j ≡ k)) → Used p i
  by-comparison : ¬ Memᴰ i (plan_expressions (number_plan p))
      → (c : Comparison) → Memᴰ c (plan_comparisons p) → (i ≡ c.left) ⊎ (i ≡ c.right)
      → ((j : ℕ) → Uses (cell_at (plan_cells p) j) i ↔ ((j ≡ c.first) ⊎ (j ≡ c.first + 1))) → Used p i

-- Every cell is used in one of these ways; every `ge` and `le` has its cells, which share its operands; no cell uses a
-- cell twice, and no two expressions of the nodes are one cell.
pub record SharedOnly (p : Plan Built) : Type 0 where
  pub used : (i : ℕ) → i < length (plan_cells p) → Used p i
  pub compared : All (ComparisonCells (plan_cells p)) (plan_comparisons p)
  pub operands-distinct : (j : ℕ) → Distinct (operands (cell_at (plan_cells p) j))
  pub roots-distinct : Distinct (plan_expressions (number_plan p))

module _ (p : Plan Built) (i : ℕ) where
  -- cell j uses cell i
  abbrev By : ℕ → Type 0
  By j = Uses (cell_at (plan_cells p) j) i

  no-root : (j : ℕ) → By j → ¬ Memᴰ i (plan_expressions (number_plan p))
  no-root j u m = (paired p).roots-unused j i m u

  neighbours : (j k : ℕ) → j < k → By j → By k → k ≡ j + 1
  neighbours j k l u v = ((paired p).users j k i l u v).next

  -- by two cells
  in-comparison : (j k : ℕ) → j < k → By j → By k → Used p i
  in-comparison j k l u v = by-comparison (no-root j u) c q.listed side λ m. (only m, both m)
    where
      q : Pair (plan_cells p) (plan_comparisons p) j k
      q = (paired p).users j k i l u v

      c : Comparison
      c = q.of

      side : (i ≡ c.left) ⊎ (i ≡ c.right)
      side = uses-two _ i _ _ (operands-binary q.cells.compares) (rw q.starts u)

      only : (m : ℕ) → By m → (m ≡ c.first) ⊎ (m ≡ c.first + 1)
      only m w = elim (dec_lt m j) [
        | yes y ↦ absurd (let e = neighbours m j y w u in let f = neighbours m k (omega arith) w v in omega arith)
        | no y ↦ elim (ℕ_discrete m j) [
          | yes e ↦ inl (rw q.starts e)
          | no n ↦ inr (rw q.starts (neighbours j m (omega arith) u w))
        ]
      ]

      both : (m : ℕ) → (m ≡ c.first) ⊎ (m ≡ c.first + 1) → By m
      both m (inl e) = rw e (uses-either _ i _ _ (operands-binary q.cells.compares) side)
      both m (inr e) = rw e (uses-either _ i _ _ (operands-binary q.cells.equals) side)

  -- by one cell
  alone : (j : ℕ) → By j → ¬ By (j + 1) → ((k : ℕ) → j ≡ k + 1 → ¬ By k) → Used p i
  alone j u next last = by-cell (no-root j u) j λ m. (only m, λ e. rw e u)
    where
      only : (m : ℕ) → By m → m ≡ j
      only m w = elim (dec_lt m j) [
        | yes y ↦ absurd (last m (neighbours m j y w u) w)
        | no y ↦ elim (dec_lt j m) [
          | yes z ↦ absurd (next (rw (neighbours j m z u w) at w))
          | no z ↦ omega arith
        ]
      ]

  cell-used : (j : ℕ) → By j → Used p i
  cell-used j u = elim (uses-decided (cell_at (plan_cells p) (j + 1)) i) [
    | yes v ↦ in-comparison j (j + 1) (omega arith) u v
    | no v ↦ elim (uses-decided (cell_at (plan_cells p) (pred j)) i) [
      | yes w ↦ elim (dec_lt 0 j) [
        | yes y ↦ in-comparison (pred j) j (omega arith) w u
        | no y ↦ alone j u v λ k e. absurd (omega arith)
      ]
      | no w ↦ alone j u v λ k e x. w (let f : pred j ≡ k = omega arith in rw f x)
    ]
  ]

  is-used : Reached (plan_cells p) (plan_expressions (number_plan p)) i → Used p i
  is-used (from m) = by-node m λ j u. no-root j u m
  is-used (by {j} h u) = cell-used j u

-- only the operands of `ge` and `le` are shared
pub shared-only : (p : Plan Built) → SharedOnly p
shared-only p = record {
  used = λ i h. is-used p i (reached-all p i h);
  compared = cells-compared p;
  operands-distinct = (paired p).operands-distinct;
  roots-distinct = (paired p).roots-distinct;
}
