-- `remaps::push_targets`: the targets of the columns so far.
use Rattle.build_clauses.specs.Remaps.{Pushing}
use Rattle.build_clauses.proofs.remaps.push_targets.Given as goal

abbrev pub invariant-loop-i : goal.invariant-loop-i
invariant-loop-i l = Pushing l.width l.hidden l.i l.initial.nodes l.nodes
