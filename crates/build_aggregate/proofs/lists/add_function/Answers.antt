-- `lists::add_function`: an argument, and the function in the record.
use native.Mathlib.Omega.{arith}
use Rattle.plan.specs.Emits.{exit}
use Rattle.build_aggregate.specs.Functions.{calls, calls-none}
use Rattle.build_aggregate.specs.Kinds.{function-added, function-refused, function-some, function-unknown}
use Rattle.build_aggregate.proofs.lists.add_function.Goals as goal

pub returns-in_default : goal.returns-in_default
returns-in_default c = rw c.at.ensures (function-unknown _ _ _ _ _ _ _ _ _ _ _
    (calls-none _ _ _ _ _ c.called.ensures c.in_default.is) c.line.ensures)

pub build_function-requires : goal.build_function-requires
build_function-requires c = record {
  calls = calls _ _ _ _ _ _ c.called.ensures c.in-Some.is;
  room = c.requires.room;
}

pub returns-in_err-m : goal.returns-in_err-m
returns-in_err-m c = rw (exit c.from_residual.result c.from_residual.ensures.1)
    (function-refused c.build_function.ensures _ _ c.in_err-m.was)

pub overflow_sub-m : goal.overflow_sub-m
overflow_sub-m c = omega (arith, function-some _ c.build_function.ensures c.in_ok-m.was)

pub returns : goal.returns
returns c = function-added c.build_function.ensures _ _ (calls _ _ _ _ _ _ c.called.ensures c.in-Some.is) c.in_ok-m.was
    c.function.ensures
