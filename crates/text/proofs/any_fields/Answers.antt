-- `any_fields`: the fields read and those from the next position on are the line's.
use native.Mathlib.Omega.{arith}
use mathlib.Core.Path.{refl}
use lib.ListN.{length-set}
use Rattle.text.specs.Lines.{begin, go_on, ends, unclosed, filled}
use Rattle.text.proofs.any_fields.Goals as goal

pub loop-n-init : goal.loop-n-init
loop-n-init c = (refl, begin _ _ _)

pub returns-then-t-e : goal.returns-then-t-e
returns-then-t-e c = unclosed _ _ _ _ _ _ c.loop-n-test.true c.loop-n.invariant.0 c.loop-n.invariant.1 c.stop_at-e.ensures _ c.min-count.ensures c.if-t-e.true

pub returns-then-t-e-eq10 : goal.returns-then-t-e-eq10
returns-then-t-e-eq10 c = ends _ _ _ _ _ _ c.loop-n-test.true c.loop-n.invariant.0 c.loop-n.invariant.1 c.stop_at-e.ensures c.if-t-e.false c.if-t-e-eq10.true

pub loop-n-preserved : goal.loop-n-preserved
loop-n-preserved c = (simp length-set c.loop-n.invariant.0, go_on _ _ _ _ _ _ c.loop-n-test.true c.loop-n.invariant.0 c.loop-n.invariant.1 c.stop_at-e.ensures c.if-t-e.false c.if-t-e-eq10.false)

pub returns : goal.returns
returns c = filled _ _ _ _ _ _ (omega (arith, c.loop-n.auto.n-end)) c.loop-n.invariant.1 c.line_end-next.ensures
