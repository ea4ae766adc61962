-- `sets::write_sets`: the sets so far.
use native.Mathlib.Omega.{arith}
use Rattle.plan.specs.Emits.{exit}
use Rattle.build_update.specs.SoFar.{set-here, sets-below, sets-past, so-far-none, so-far-step, so-far-stop, so-far-all}
use Rattle.build_update.specs.SoFar.{number-room, set_room}
use Rattle.build_update.proofs.sets.write_sets.Goals as goal

pub loop-v-init : goal.loop-v-init
loop-v-init c = λ h. so-far-none _ _ _ _ _ _ (omega (arith, c.requires.nodes_room))

pub write_set-requires : goal.write_set-requires
write_set-requires c = record {
  room = set_room _ _ _ (c.loop-v.invariant 0) _ (set-here _ _ _ _ (c.count-sets.ensures _ _ _) _ _ c.entry_at-e.ensures c.loop-v-test.true) c.requires.room;
  nodes_room = number-room _ _ _ (c.loop-v.invariant 0) c.requires.nodes_room
      (sets-below _ _ _ _ (c.count-sets.ensures _ _ _) c.loop-v-test.true);
}

pub returns-in_err-written : goal.returns-in_err-written
returns-in_err-written c = λ h. rw (exit c.from_residual.result c.from_residual.ensures.1) (so-far-stop _ _ _ (c.loop-v.invariant h)
    _ (set-here _ _ _ _ (c.count-sets.ensures _ _ _) _ _ c.entry_at-e.ensures c.loop-v-test.true) (c.write_set.ensures h) _ c.in_err-written.was)

pub loop-v-preserved : goal.loop-v-preserved
loop-v-preserved c = λ h. so-far-step _ _ _ (c.loop-v.invariant h)
    _ (set-here _ _ _ _ (c.count-sets.ensures _ _ _) _ _ c.entry_at-e.ensures c.loop-v-test.true) (c.write_set.ensures h) _ c.in_ok-written.was

pub returns : goal.returns
returns c = λ h. so-far-all _ _ _ (c.loop-v.invariant h) (sets-past _ _ _ _ (c.count-sets.ensures _ _ _) c.loop-v-test.false)
