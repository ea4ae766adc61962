-- `finish`: the header, the copy and the zeros, in three steps.
use native.Mathlib.Omega.{arith}
use Rattle.plan.specs.Finished.{finished-steps}
use Rattle.plan.proofs.finish.finish.Goals as goal

pub returns : goal.returns
returns c = let pre = c.requires in
    finished-steps _ _ _ _ _ _ _ _ _ _ pre.2 pre.4 (omega (arith, pre.0, pre.1, pre.3))
    c.put_header.ensures
    c.copy.ensures c.clear_from.ensures
