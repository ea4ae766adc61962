-- `name_head`: a name, or none.
use Rattle.entries.specs.HeadFields.{head-name, head-unnamed}
use Rattle.entries.proofs.name_head.Goals as goal

pub returns-in_err-name : goal.returns-in_err-name
returns-in_err-name c = λ t i. head-unnamed _ _ _ _ _ i c.in_err-name.ensures c.from_residual.ensures

pub returns : goal.returns
returns c = λ t i. head-name _ _ _ _ _ i c.in_ok-name.ensures.0 c.requires.few (rw c.in_ok-name.ensures.1)
