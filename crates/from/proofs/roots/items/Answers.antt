-- `roots::items`: one more for each root, from the last one on.
use native.Mathlib.Omega.{arith}
use Rattle.from.specs.Roots.{first-falls, counts-on, counts_end}
use Rattle.from.proofs.roots.items.Goals as goal

pub loop-end-smaller : goal.loop-end-smaller
loop-end-smaller c = first-falls _ _ _ (omega (arith, c.loop-end-test.true)) c.first-end.ensures

pub loop-end-preserved : goal.loop-end-preserved
loop-end-preserved c = counts-on _ _ _ _ _ c.loop-end-test.true c.first-end.ensures c.loop-end.invariant

pub returns : goal.returns
returns c = counts_end _ _ _ _ c.loop-end-test.false c.loop-end.invariant
