-- `last_qualified`: from the end, the first that has both names.
use native.Mathlib.Omega.{arith}
use mathlib.Core.Path.{◌≡◌}
use Rattle.scope.specs.Labels.{columns_of}
use Rattle.scope.specs.Search.{none-behind, behind-miss, behind-hit, behind-none}
use Rattle.scope.specs.Endings.{ending-within}
use Rattle.scope.proofs.view.View.last_qualified.Goals as goal

pub is_qualified-requires : goal.is_qualified-requires
is_qualified-requires c = ending-within _ _ c.ending_of-ending.ensures

pub loop-i-init : goal.loop-i-init
loop-i-init c = λ v w ev ew. none-behind _ _ _

pub returns-then-is_qualified : goal.returns-then-is_qualified
unfolding columns_of
returns-then-is_qualified c = λ v w ev ew. behind-hit (c.loop-i.invariant v w ev ew) c.loop-i-test.true c.loop-i.auto.i
    (c.is_qualified.ensures v w ev ew c.ending_of-ending.ensures) c.if-is_qualified.true

pub loop-i-preserved : goal.loop-i-preserved
loop-i-preserved c = λ v w ev ew. behind-miss (c.loop-i.invariant v w ev ew) c.loop-i-test.true c.loop-i.auto.i
    (c.is_qualified.ensures v w ev ew c.ending_of-ending.ensures) c.if-is_qualified.false

pub returns : goal.returns
unfolding columns_of
returns c = λ v w ev ew. let z : c.loop-i.i ≡ 0 = omega arith in behind-none (rw z at (c.loop-i.invariant v w ev ew)) c.not_found.ensures
