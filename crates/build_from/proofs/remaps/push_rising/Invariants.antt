-- `remaps::push_rising`: the targets pushed so far.
use Rattle.build_from.specs.Remaps.{Pushing}
use Rattle.build_from.proofs.remaps.push_rising.Given as goal

abbrev pub invariant-loop-target : goal.invariant-loop-target
invariant-loop-target l = Pushing l.i l.target l.initial.nodes l.nodes
