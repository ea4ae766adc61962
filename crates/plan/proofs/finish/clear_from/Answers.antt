-- `clear_from`: zeros from a place on.
use Rattle.plan.specs.Finished.{cleared-rest}
use Rattle.plan.proofs.finish.clear_from.Goals as goal

pub returns : goal.returns
returns c = cleared-rest _ _ _ c.requires (c.fill.ensures.after (λ y e. e))
