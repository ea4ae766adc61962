-- `step`: by whether there is a case.
use Rattle.std.proofs.Common.{sym, ◌∙◌}
use Rattle.replay.specs.Replay.{step-case, step-damaged}
use Rattle.replay.proofs.step.Goals as goal

pub returns-in_err-case : goal.returns-in_err-case
returns-in_err-case c = rw c.from_residual.ensures (step-damaged _ _ c.requires (sym c.case_at.ensures ∙ c.in_err-case.was))

pub returns : goal.returns
returns c = rw c.from.ensures (step-case _ _ c.requires _ (sym c.case_at.ensures ∙ c.in_ok-case.was))
