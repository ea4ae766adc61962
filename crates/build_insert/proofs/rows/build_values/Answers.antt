-- `rows::build_values`: value by value.
use Rattle.plan.specs.Emits.{exit}
use native.Mathlib.Omega.{arith}
use mathlib.Core.Path.{◌≡◌}
use Prim.Native.Nat.{◌+◌, ◌-◌, ◌<◌}
use Rattle.build_insert.specs.Values.{values-none, value_room, value-space, values-stop, values-more, values-done}
use Rattle.build_insert.proofs.rows.build_values.Goals as goal

pub loop-init : goal.loop-init
loop-init c = let z : c.args.values - 0 ≡ c.args.values = omega arith in
    rw z (values-none _ _ _ _ _ _ _ _ c.requires.room c.requires.nodes_room)

pub build_value-requires : goal.build_value-requires
build_value-requires c = let l : 0 < c.args.values - c.loop.counter = omega (arith, c.loop-test.true) in
    record { room = value_room c.loop.invariant l; nodes_room = value-space c.loop.invariant l }

pub returns-in_err-built : goal.returns-in_err-built
returns-in_err-built c = let l : 0 < c.args.values - c.loop.counter = omega (arith, c.loop-test.true) in
    rw (exit c.from_residual.result c.from_residual.ensures.1) (values-stop c.loop.invariant l c.build_value.ensures _ c.in_err-built.was)

pub loop-preserved : goal.loop-preserved
loop-preserved c = let l : 0 < c.args.values - c.loop.counter = omega (arith, c.loop-test.true) in
    let z : c.args.values - (c.loop.counter + 1) ≡ c.args.values - c.loop.counter - 1 = omega arith in
    rw z (values-more c.loop.invariant l c.build_value.ensures _ _ c.in_ok-built.was c.next-row.ensures)

pub returns : goal.returns
returns c = values-done c.loop.invariant (omega (arith, c.loop-test.false))
