-- `list_outcome`: by whether there is a plan.
use Rattle.plan_listing.specs.Shown.{shown-plan, shown-refusal}
use Rattle.plan_listing.proofs.list_outcome.Goals as goal

pub returns-then-outcome-eq0 : goal.returns-then-outcome-eq0
returns-then-outcome-eq0 c = rw (shown-plan c.args.texts.now.catalog.now c.args.texts.now.statement.now c.args.outcome c.args.area.now c.if-outcome-eq0.true) at c.list.ensures

pub returns : goal.returns
returns c = rw (shown-refusal c.args.texts.now.catalog.now c.args.texts.now.statement.now c.args.outcome c.args.area.now c.if-outcome-eq0.false) at c.list_refusal.ensures
