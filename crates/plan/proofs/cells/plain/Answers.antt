-- `cells::plain` meets its contract.
use Rattle.std.proofs.Common.{ap, ◌∙◌}
use Rattle.rules.specs.Codes.{binary_code}
use Rattle.rules.specs.Cells.{binary}
use Rattle.plan.specs.Cells.{plain-numbers}
use Rattle.plan.proofs.cells.plain.Goals as goal

pub returns : goal.returns
unfolding binary_code
returns c = λ o e. c.put_cell.ensures (binary o _ _) (plain-numbers o _ _ _ (c.from.ensures ∙ ap binary_code e))
