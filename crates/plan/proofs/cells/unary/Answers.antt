-- `cells::unary` meets its contract.
use Rattle.rules.specs.Cells.{unary}
use Rattle.plan.specs.Cells.{unary-numbers}
use Rattle.plan.proofs.cells.unary.Goals as goal

pub returns : goal.returns
returns c = c.put_cell.ensures (unary _ _) (unary-numbers _ _ _ c.from.ensures)
