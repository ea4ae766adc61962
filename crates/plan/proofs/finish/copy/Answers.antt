-- `finish::copy`: a turn copies one number more.
use native.Mathlib.Omega.{arith}
use mathlib.Core.Path.{◌≡◌, ◌∙◌}
use Rattle.std.proofs.Math.Numerals.{add-one}
use lib.Seq.{paste-suc}
use Rattle.plan.proofs.finish.copy.Goals as goal

pub loop-j-preserved : goal.loop-j-preserved
loop-j-preserved c = rw (add-one c.loop-j.j, c.loop-j.invariant)
    (paste-suc _ _ _ c.loop-j.j 0 (omega (arith, c.loop-j-test.true, c.requires.0)) (omega (arith, c.loop-j-test.true, c.requires.1)))

pub returns : goal.returns
returns c = let z : c.loop-j.j ≡ c.args.n = omega (arith, c.loop-j-test.false, c.loop-j.auto.j-end) in
    c.loop-j.invariant ∙ rw z
