-- `cells::column` meets its contract.
use mathlib.Core.Path.{refl}
use Rattle.rules.specs.Area.{cell_numbers}
use Rattle.rules.specs.Cells.{column}
use Rattle.plan.proofs.cells.column.Goals as goal

pub returns : goal.returns
unfolding cell_numbers
returns c = c.put_cell.ensures (column _) refl
