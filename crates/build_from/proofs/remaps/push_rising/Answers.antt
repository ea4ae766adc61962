-- `remaps::push_rising`: the targets pushed so far.
use native.Mathlib.Omega.{arith}
use Rattle.build_from.specs.Remaps.{pushing-begin, pushing-more, pushing-end, rising-end}
use Rattle.build_from.proofs.remaps.push_rising.Goals as goal

pub loop-target-init : goal.loop-target-init
loop-target-init c = pushing-begin _ _ (omega (arith, c.requires.room))

pub push-requires : goal.push-requires
push-requires c = let h = c.loop-target.invariant.is in
    omega (arith, rising-end _ _ h, h.kept.all, c.requires.room, c.loop-target-test.true, c.loop-target.auto.target)

pub loop-target-preserved : goal.loop-target-preserved
loop-target-preserved c = pushing-more c.loop-target.auto.target c.loop-target.invariant c.push.ensures

pub returns : goal.returns
returns c = pushing-end _ (omega (arith, c.loop-target-test.false, c.loop-target.auto.target-end (omega arith))) c.loop-target.invariant
