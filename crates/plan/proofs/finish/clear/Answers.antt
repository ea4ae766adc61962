-- `clear`: all from place 0 on.
use mathlib.Core.Path.{◌∙◌}
use Rattle.plan.specs.Finished.{cleared-all}
use Rattle.plan.proofs.finish.clear.Goals as goal

pub returns : goal.returns
returns c = c.clear_from.ensures ∙ cleared-all _
