-- The number of a SELECT's cells is the count of its statement and catalog.
use Rattle.std.specs.Prelude.{◌≡◌, length}
use Rattle.std.proofs.Common.{◌∙◌}
use Rattle.rules.specs.Schema.{Catalog}
use Rattle.rules.specs.Ast.{Select}
use Rattle.rules.specs.BuildExpression.{each}
use Rattle.rules.specs.BuildSelect.{build_select}
use Rattle.rules.specs.Cells.{built_count, plan_expressions, plan_cells}
use Rattle.rules.specs.Order.{build_use, uses_of}
use Rattle.rules.specs.Count.{use_cost, count_select}
use Rattle.claims.specs.Answers.{Ensures, weaken, ensured}
use Rattle.claims.specs.Count.Totals.{each-total}
use Rattle.claims.specs.Count.Sums.{plan_cells-length}
use Rattle.claims.specs.Count.Costs.{cost-use}
use Rattle.claims.specs.Order.Builds.{Builds}
use Rattle.claims.specs.Order.Select.{InOrder, in_order}

pub select-count : (c : Catalog) (q : Select) → Ensures (build_select c q) (λ p. length (plan_cells p) ≡ count_select c q)
unfolding InOrder Builds count_select
select-count c q = weaken (build_select c q) _ _ (λ p h. plan_cells-length p
    ∙ ensured (each build_use (uses_of c q)) _ (each-total build_use built_count use_cost cost-use (uses_of c q)) (plan_expressions p) h)
    (in_order c q)
