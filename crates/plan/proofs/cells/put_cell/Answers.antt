-- `cells::put_cell` meets its contract.
use Rattle.plan.specs.Cells.{put_one}
use Rattle.plan.proofs.cells.put_cell.Goals as goal

pub returns : goal.returns
returns c = λ x e. put_one x _ _ _ _ c.requires e c.put.ensures
