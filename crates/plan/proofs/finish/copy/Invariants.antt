-- `finish::copy`: the numbers so far are copied.
use mathlib.Core.Path.{◌≡◌}
use lib.Seq.{paste}
use Rattle.plan.proofs.finish.copy.Given as goal

abbrev pub invariant-loop-j : goal.invariant-loop-j
invariant-loop-j l = l.area ≡ paste l.initial.area l.i l.nodes l.j
