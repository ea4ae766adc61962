-- `remaps::build_remap`: nothing, or the targets between the head of the record and its length.
use Rattle.build_clauses.specs.Remaps.{remap-nothing, remap-done}
use Rattle.plan.specs.Records.{opened-remap}
use native.Mathlib.Omega.{arith}
use Rattle.build_clauses.proofs.remaps.build_remap.Goals as goal

pub returns-then-scope-eq0 : goal.returns-then-scope-eq0
returns-then-scope-eq0 c = remap-nothing c.if-scope-eq0.true (omega (arith, c.requires.follows.room))

pub returns : goal.returns
returns c = rw c.next.ensures (remap-done _ _ _ c.if-scope-eq0.false (opened-remap c.begin.ensures)
    c.push_targets.ensures c.requires.hidden_le_width c.end.ensures)
