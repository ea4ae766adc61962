-- `building::build_one_table`: a SELECT over at most one table in few numbers for its nodes.
use mathlib.Core.Path.{refl}
use Rattle.planner.specs.Kinds.{plans-as, one-table-ready, one-table-built}
use Rattle.planner.proofs.building.build_one_table.Goals as goal

pub build_select-requires : goal.build_select-requires
build_select-requires c = one-table-ready _ _ _ _ _ c.requires.one_table c.requires.statement_ready c.requires.area_room refl refl

pub returns : goal.returns
returns c = plans-as (one-table-built _ _ _ _ _ c.requires.one_table _) c.build_select.ensures
