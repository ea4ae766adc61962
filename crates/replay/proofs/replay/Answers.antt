-- `replay`: the cases from here on end as the whole list does.
use Rattle.replay.specs.Replay.{replay-begin, replay-more, replay-damaged, replay-end}
use Rattle.replay.proofs.replay.Goals as goal

pub loop-p-init : goal.loop-p-init
loop-p-init g c = replay-begin _

pub returns-in_default : goal.returns-in_default
returns-in_default g c = replay-damaged _ _ c.loop-p.invariant c.loop-p-test.true c.step.ensures c.in_default.is

pub loop-p-preserved-then-is_ok : goal.loop-p-preserved-then-is_ok
loop-p-preserved-then-is_ok g c = replay-more _ _ c.loop-p.invariant c.loop-p-test.true c.step.ensures _ c.in-Some.is

pub loop-p-preserved : goal.loop-p-preserved
loop-p-preserved g c = replay-more _ _ c.loop-p.invariant c.loop-p-test.true c.step.ensures _ c.in-Some.is

pub returns : goal.returns
returns g c = replay-end _ _ c.loop-p.invariant c.loop-p-test.false
