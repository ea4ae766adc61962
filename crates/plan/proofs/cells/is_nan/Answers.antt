-- `cells::is_nan` meets its contract.
use Rattle.rules.specs.Cells.{is}
use Rattle.plan.specs.Literals.{is-nan-numbers}
use Rattle.plan.proofs.cells.is_nan.Goals as goal

pub returns : goal.returns
returns c = c.put_cell.ensures (is _ _) (is-nan-numbers _ _ _ c.ranges.low.fits)
