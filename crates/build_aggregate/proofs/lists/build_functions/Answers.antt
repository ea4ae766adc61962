-- `lists::build_functions`: row by row.
use native.Mathlib.Omega.{arith}
use Rattle.plan.specs.Emits.{exit}
use Rattle.build_aggregate.specs.Entries.{rows-begin, row_room, row_space, rows_more, rows-stop, rows-done}
use Rattle.build_aggregate.proofs.lists.build_functions.Goals as goal

pub loop-r-init : goal.loop-r-init
loop-r-init c = (
  c.requires.nodes_room,
  rows-begin _ _ _ _ _ _ c.requires.room (omega (arith, c.requires.nodes_room)),
)

pub add_function-requires : goal.add_function-requires
add_function-requires c = record {
  room = row_room c.loop-r.invariant.1 c.loop-r-test.true;
  nodes_room = row_space c.loop-r.invariant.1 c.loop-r-test.true (omega (arith, c.loop-r.invariant.0));
}

pub returns-in_err-m : goal.returns-in_err-m
returns-in_err-m c = rw (exit c.from_residual.result c.from_residual.ensures.1)
    (rows-stop c.loop-r.invariant.1 c.loop-r-test.true c.add_function.ensures _ c.in_err-m.was)

pub loop-r-preserved : goal.loop-r-preserved
loop-r-preserved c = (
  c.loop-r.invariant.0,
  rows_more c.loop-r.invariant.1 c.loop-r-test.true c.add_function.ensures _ c.in_ok-m.was,
)

pub returns : goal.returns
returns c = rows-done c.loop-r.invariant.1 c.loop-r-test.false (omega arith)
