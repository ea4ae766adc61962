-- `cells::constant`: the numbers of the literal as the plan has it.
use Rattle.std.proofs.Common.{sym}
use Rattle.rules.specs.Area.{cell_numbers}
use Rattle.rules.specs.Cells.{constant}
use Rattle.plan.proofs.cells.constant.Goals as goal

pub returns : goal.returns
unfolding cell_numbers
returns c = c.put_cell.ensures (constant _) (rw c.from.ensures (sym c.in_plan-x.ensures))
