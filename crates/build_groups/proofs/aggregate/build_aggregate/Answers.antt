-- `aggregate::build_aggregate`: the rows that are retained, then the stage over them.
use native.Mathlib.Omega.{arith}
use mathlib.Core.Path.{ap}
use Rattle.std.specs.Prelude.{length}
use Rattle.build_groups.specs.Terms.{second-room, retained-both, kept-ready}
use Rattle.build_groups.proofs.aggregate.build_aggregate.Goals as goal

pub retain-requires-2 : goal.retain-requires-2
retain-requires-2 c = second-room _ _ _ c.new-kept.ensures.used c.retain.ensures (omega (arith, ap length c.new-kept.ensures.rows, c.requires.few-groups, c.requires.few-functions))

pub build_retained-requires : goal.build_retained-requires
build_retained-requires c = rw c.listed.ensures (kept-ready c.requires (retained-both _ _ _ c.new-kept.ensures.used c.retain.ensures c.retain-2.ensures))

pub returns : goal.returns
returns c = c.build_retained.ensures _ _ (rw c.listed.ensures (retained-both _ _ _ c.new-kept.ensures.used c.retain.ensures c.retain-2.ensures)) c.requires.some-rows
