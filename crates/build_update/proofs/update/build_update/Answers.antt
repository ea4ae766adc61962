-- `update::build_update`: the table and its filter, and the plan behind it.
use Rattle.plan.specs.Emits.{exit}
use Rattle.build_statement.specs.Kinds.{free-kept}
use Rattle.build_update.specs.Updates.{update-target, update-refused, update-few-sets, update-root, update-planned}
use Rattle.build_update.proofs.update.build_update.Goals as goal

pub build_target-requires : goal.build_target-requires
build_target-requires c = update-target _ _ _ _ _ c.requires

pub returns-in_err-target : goal.returns-in_err-target
returns-in_err-target c = rw (exit c.from_residual.result c.from_residual.ensures.1)
    (update-refused _ _ _ _ _ c.requires c.build_target.ensures _ c.in_err-target.was)

pub end_update-requires : goal.end_update-requires
end_update-requires c = record {
  free = free-kept c.requires.free c.build_target.auto.area;
  few_sets = update-few-sets _ _ _ _ _ c.requires c.build_target.ensures _ c.in_ok-target.was;
  root_behind = update-root _ _ _ _ _ c.requires c.build_target.ensures _ c.in_ok-target.was;
}

pub returns : goal.returns
returns c = update-planned _ _ _ _ _ c.requires c.build_target.ensures _ c.in_ok-target.was
    c.end_update.ensures
