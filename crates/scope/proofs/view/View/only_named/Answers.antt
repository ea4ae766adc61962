-- `lookup::only_named`: the columns so far that have the name are none or the one at hand.
use mathlib.Core.Path.{sym, ◌∙◌}
use Rattle.scope.specs.Labels.{columns_of}
use Rattle.scope.specs.Search.{seek-begin, seek-miss, seek-first}
use Rattle.scope.specs.Search.{seek-second, seek-end, only_none, only_one}
use Rattle.std.proofs.Common.{rules}
use Rattle.scope.specs.Endings.{ending-within}
use Rattle.scope.proofs.view.View.only_named.Goals as goal
use Rattle.scope.proofs.view.View.only_named.Goals.{then-is_named+else-is_some, else-is_named}

pub loop-i-init : goal.loop-i-init
loop-i-init c = λ ts w e. seek-begin _ _ _ _

pub is_named-requires : goal.is_named-requires
is_named-requires c = ending-within _ _ c.ending_of-ending.ensures

pub loop-i-preserved : goal.loop-i-preserved
loop-i-preserved c = λ ts w e. elim c.if-is_named.branch [
  | then-is_named+else-is_some z ↦ seek-first (c.loop-i.invariant ts w e) c.loop-i-test.true
      (c.is_named.ensures ts w e c.ending_of-ending.ensures) z.if-is_named.true
      (sym z.is_some.ensures ∙ z.if-is_some.false) z.hit-is
  | else-is_named z ↦ seek-miss (c.loop-i.invariant ts w e) c.loop-i-test.true
      (c.is_named.ensures ts w e c.ending_of-ending.ensures) z.if-is_named.false z.hit-is
]

pub returns-then-is_some : goal.returns-then-is_some
unfolding columns_of
returns-then-is_some c = λ ts w e. seek-second (c.loop-i.invariant ts w e) c.loop-i-test.true
    (c.is_named.ensures ts w e c.ending_of-ending.ensures) c.if-is_named.true (sym c.is_some.ensures ∙ c.if-is_some.true)

pub returns : goal.returns
unfolding columns_of
returns c = λ ts w e. seek-end (c.loop-i.invariant ts w e) c.loop-i-test.false c.ok_or_else.ensures.cases (λ m q. search rules) only_none only_one
