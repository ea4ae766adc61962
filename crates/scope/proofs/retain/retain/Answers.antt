-- `retain::retain`: the rows so far are kept, each expression once.
use Rattle.scope.specs.Retain.{retain-skip, retain-keep, retain-end}
use Rattle.scope.proofs.retain.retain.Goals as goal
use Rattle.scope.proofs.retain.retain.Goals.{then-not-has_equal, else-not-has_equal}

pub loop-r-preserved : goal.loop-r-preserved
loop-r-preserved c = elim c.if-not-has_equal.branch [
  | then-not-has_equal w ↦ rw w.kept-is (retain-keep c.loop-r.invariant c.loop-r-test.true c.listed.ensures c.has_equal.ensures
      w.if-not-has_equal.true w.push.ensures)
  | else-not-has_equal w ↦ rw w.kept-is (retain-skip c.loop-r.invariant c.loop-r-test.true c.listed.ensures c.has_equal.ensures
      w.if-not-has_equal.false)
]

pub returns : goal.returns
returns c = retain-end c.loop-r.invariant c.loop-r-test.false
