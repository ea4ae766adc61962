-- `replay`: the cases from here on end as the whole list does.
use Rattle.std.proofs.Common.{◌-◌, length}
use Rattle.replay.specs.Replay.{Replaying}
use Rattle.replay.proofs.replay.Given as goal

abbrev pub invariant-loop-p : goal.invariant-loop-p
invariant-loop-p g l = Replaying l.list l.p

abbrev pub decreases-loop-p : goal.decreases-loop-p
decreases-loop-p g l = length l.list - l.p.at
