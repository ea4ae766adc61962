-- The aggregate calls of a tree (ast.rs, collect) by their rows.
--
-- The rows are found by the same recursion as `tree_at`; Trees has the law that the trees at them are what the rules'
-- `collect` gives (`collect-trees`), and that they lie inside the table (`rows_Inside`).
use Rattle.std.specs.Prelude.{ℕ, zero, suc, ◌+◌, true, false, List, [], ◌∷◌, ◌++◌, length}
use Rattle.rules.specs.Lists.{Bytes}
use Rattle.ast.specs.Table.{rows_at, root_at}
use Rattle.ast.specs.Behind.{behind}
use Rattle.ast.specs.Operands.{operands_at}
use Rattle.ast.specs.Walk.{is_aggregate_call}

-- what g gives of n operands from row r on, one behind the other
unfoldable pub rows_of : (ℕ → List ℕ) → List ℕ → ℕ → ℕ → List ℕ
rows_of g t zero r = []
rows_of g t (suc n) r = g r ++ rows_of g t n (r + rows_at t r)

-- those of the tree at a row, its operands' given by g
unfoldable pub collect_by : (ℕ → List ℕ) → Bytes → Bytes → List ℕ → ℕ → List ℕ
collect_by g c q t r =
    elim (is_aggregate_call (root_at c q t r)) [ true ↦ r ∷ [] | false ↦ rows_of g t (operands_at t r) (suc r) ]

unfoldable pub collect_rows : Bytes → Bytes → List ℕ → ℕ → List ℕ
collect_rows c q t r = behind (λ g. collect_by g c q t) [] (length t) r
