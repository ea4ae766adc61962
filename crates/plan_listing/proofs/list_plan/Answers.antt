-- `list_plan`: the planner's outcome and area are shown as the rules' listing.
use borrow.Author.Rules.{rules}
use Rattle.planner.specs.Outcomes.{told}
use Rattle.plan_listing.specs.Shown.{planned-shown}
use Rattle.plan_listing.proofs.list_plan.Goals as goal

pub returns : goal.returns
returns c = record {
  listed = rw (
    c.from-planned.ensures,
    planned-shown c.args.texts.now.catalog.now c.args.texts.now.statement.now c.args.area.now (search rules)
        c.plan.ensures,
  ) at c.list_outcome.ensures;
  area-is = c.plan.ensures.area-is;
}
