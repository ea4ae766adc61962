-- `delete::build_delete`: the table and its filter, and the end.
use Rattle.plan.specs.Emits.{exit}
use Rattle.build_statement.specs.Kinds.{free-kept}
use Rattle.build_statement.specs.Deletes.{delete-target, delete-refused, delete-most, delete-root, delete-planned}
use Rattle.build_statement.proofs.delete.build_delete.Goals as goal

pub build_target-requires : goal.build_target-requires
build_target-requires c = delete-target _ _ _ _ _ c.requires

pub returns-in_err-target : goal.returns-in_err-target
returns-in_err-target c = rw (exit c.from_residual.result c.from_residual.ensures.1)
    (delete-refused _ _ _ _ _ c.requires c.build_target.ensures _ c.in_err-target.was)

pub end_delete-requires : goal.end_delete-requires
end_delete-requires c = record {
  free = free-kept c.requires.free c.build_target.auto.area;
  few_cells = delete-most _ _ _ _ _ c.requires c.build_target.ensures _ c.in_ok-target.was;
  root_behind = delete-root _ _ _ _ _ c.requires c.build_target.ensures _ c.in_ok-target.was;
}

pub returns : goal.returns
returns c = delete-planned _ _ _ _ _ c.requires c.build_target.ensures _ c.in_ok-target.was c.end_delete.auto.area c.end_delete.ensures
