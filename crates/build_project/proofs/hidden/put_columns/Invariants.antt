-- `hidden::put_columns`: the columns put so far.
use Rattle.build_project.specs.Hidden.{Putting}
use Rattle.build_project.proofs.hidden.put_columns.Given as goal

abbrev pub invariant-loop-i : goal.invariant-loop-i
invariant-loop-i l = Putting l.positions l.first l.initial.area l.area l.initial.nodes l.nodes l.i
