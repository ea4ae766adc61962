-- The cells of a node and of a plan, as a sum over their expressions.
use Rattle.std.proofs.Common.{arith, ◌∙◌}
use Rattle.std.specs.Prelude.{◌≡◌, refl, List, [], ◌∷◌, length}
use Rattle.rules.specs.Plan.{Built, Node, Plan}
use Rattle.rules.specs.Cells.{built_count, count_all, expressions, cell_count, plan_expressions, plan_cells}
use Rattle.rules.specs.Sizes.{total}
use Rattle.claims.specs.Cells.Length.{cells_all-length}

count_all-total : (as' : List Built) → count_all as' ≡ total built_count as'
unfolding count_all total
count_all-total [] = refl
count_all-total (a ∷ as') = omega (arith, count_all-total as')

-- those of a node
pub cell_count-total : (n : Node Built) → cell_count n ≡ total built_count (expressions n)
unfolding cell_count
cell_count-total n = count_all-total (expressions n)

-- those of a plan
pub plan_cells-length : (p : Plan Built) → length (plan_cells p) ≡ total built_count (plan_expressions p)
unfolding plan_cells
plan_cells-length p = cells_all-length (plan_expressions p) 0 ∙ count_all-total (plan_expressions p)
