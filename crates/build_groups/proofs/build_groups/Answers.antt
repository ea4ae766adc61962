-- `build_groups`: nothing to aggregate, or the aggregate stage.
use native.Mathlib.Omega.{arith}
use mathlib.Core.Path.{ap}
use Rattle.std.specs.Prelude.{length}
use Rattle.build_groups.specs.Stages.{groups-fit, functions-fit, none-stage, some-ready, some-stage}
use Rattle.build_groups.proofs.build_groups.Goals as goal

pub group_rows-requires : goal.group_rows-requires
group_rows-requires c = omega (arith, groups-fit c.requires, c.new-groups.ensures.used, ap length c.new-groups.ensures.rows)

pub function_rows-requires : goal.function_rows-requires
function_rows-requires c = omega (arith, functions-fit c.requires, c.new-functions.ensures.used, ap length c.new-functions.ensures.rows)

pub overflow_add-groups : goal.overflow_add-groups
overflow_add-groups c = omega (arith, c.group_rows.ensures.used, c.function_rows.ensures.used, groups-fit c.requires, functions-fit c.requires)

pub returns-then-groups-functions-eq0 : goal.returns-then-groups-functions-eq0
returns-then-groups-functions-eq0 c = none-stage c.requires c.new-groups.ensures.used c.group_rows.ensures c.new-functions.ensures.used c.function_rows.ensures c.if-groups-functions-eq0.true

pub build_aggregate-requires : goal.build_aggregate-requires
build_aggregate-requires c = rw (c.listed.ensures, c.listed-2.ensures) (some-ready c.requires c.new-groups.ensures.used c.group_rows.ensures c.new-functions.ensures.used c.function_rows.ensures c.if-groups-functions-eq0.false)

pub returns : goal.returns
returns c = some-stage c.requires c.new-groups.ensures.used c.group_rows.ensures c.new-functions.ensures.used c.function_rows.ensures c.if-groups-functions-eq0.false (rw (c.listed.ensures, c.listed-2.ensures) at c.build_aggregate.ensures)
