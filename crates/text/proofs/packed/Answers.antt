-- `packed`: the bytes behind those that are left are packed.
use native.Mathlib.Omega.{arith}
use Rattle.text.specs.Packed.{left-begin, left-step, left-end, left-long}
use Rattle.text.proofs.packed.Goals as goal

pub loop-b-init : goal.loop-b-init
loop-b-init c = rw (c.into_iter-b-iterator.ensures.into_iter_gives, c.rev-b-items.ensures.source, c.iter.ensures.rest) (left-begin _)

pub returns-then-v-ge-ROOM : goal.returns-then-v-ge-ROOM
returns-then-v-ge-ROOM c = left-long _ c.loop-b.invariant _ _ c.in-Some.ensures.steps c.if-v-ge-ROOM.true

pub loop-b-preserved : goal.loop-b-preserved
loop-b-preserved c = left-step _ c.loop-b.invariant _ _ c.in-Some.ensures.steps c.if-v-ge-ROOM.false (omega arith)

pub returns : goal.returns
returns c = left-end _ c.loop-b.invariant c.in-None.ensures.steps.0
