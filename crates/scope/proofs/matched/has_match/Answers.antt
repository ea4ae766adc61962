-- `matched::has_match`: a match that is not 0.
use mathlib.Core.Path.{refl}
use Rattle.scope.specs.UsedMatches.{some-next, some-end}
use Rattle.scope.proofs.matched.has_match.Goals as goal

pub loop-m-init : goal.loop-m-init
loop-m-init c = refl

pub loop-m-preserved : goal.loop-m-preserved
loop-m-preserved c = some-next _ _ _ c.loop-m-test.true c.loop-m.invariant

pub returns : goal.returns
returns c = some-end _ _ _ c.loop-m-test.false c.loop-m.invariant
