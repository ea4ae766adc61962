-- The `ge` and `le` of a plan's expressions, by the numbers of their cells.
use Rattle.std.specs.Prelude.{ℕ, ◌+◌, ◌≡◌, List, [], ◌∷◌, ◌++◌}
use Rattle.rules.specs.Ast.{Plain, or, eq, gt, lt, Binary, plain, ge, le, ne}
use Rattle.rules.specs.Plan.{Built, Plan}
use Rattle.rules.specs.Plan as P
use Rattle.rules.specs.Cells.{Cell, binary, built_count, root, plan_expressions}
use Rattle.claims.specs.Cells.Operands.{cell_at}

-- a `ge` or `le`: its greater or less, the roots of its operands, and the first of its own cells
pub record Comparison : Type 0 where
  pub sign : Plain
  pub left : ℕ
  pub right : ℕ
  pub first : ℕ

abbrev pub comparison : Plain → ℕ → ℕ → ℕ → Comparison
comparison s n x y = record { sign = s; left = x; right = y; first = n }

-- that of an operator, the first of its own cells n, over the operands x and y
unfoldable pub operator_comparisons : Binary → ℕ → ℕ → ℕ → List Comparison
operator_comparisons (plain o) n x y = []
operator_comparisons ge n x y = comparison gt n x y ∷ []
operator_comparisons le n x y = comparison lt n x y ∷ []
operator_comparisons ne n x y = []

-- those of an expression, the first of its cells n
unfoldable pub comparisons : ℕ → Built → List Comparison
comparisons n (P.constant v) = []
comparisons n (P.column i) = []
comparisons n (P.unary o a) = comparisons n a
comparisons n (P.binary o a b) =
    let m = n + built_count a in
    comparisons n a ++ (comparisons m b ++ operator_comparisons o (m + built_count b) (root n a) (root m b))
comparisons n (P.is a v) = comparisons n a

-- of several
unfoldable pub comparisons_all : ℕ → List Built → List Comparison
comparisons_all n [] = []
comparisons_all n (a ∷ as') = comparisons n a ++ comparisons_all (n + built_count a) as'

-- of a plan
unfoldable pub plan_comparisons : Plan Built → List Comparison
plan_comparisons p = comparisons_all 0 (plan_expressions p)

-- its own cells: greater or less, and equal, both over its operands, and the `or` of both
pub record ComparisonCells (cs : List Cell) (c : Comparison) : Type 0 where
  pub compares : cell_at cs c.first ≡ binary c.sign c.left c.right
  pub equals : cell_at cs (c.first + 1) ≡ binary eq c.left c.right
  pub joins : cell_at cs (c.first + 2) ≡ binary or c.first (c.first + 1)
