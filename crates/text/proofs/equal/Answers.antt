-- `equal`: the bytes from here on are the same.
use mathlib.Core.Path.{sym}
use Rattle.text.specs.Order.{alike-begin, alike-step, differ-at, same-lengths}
use Rattle.text.proofs.equal.Goals as goal

pub returns-then-x-y : goal.returns-then-x-y
returns-then-x-y c = sym (same-lengths _ _ c.if-x-y.true)

pub loop-i-init : goal.loop-i-init
loop-i-init c = alike-begin _ _ c.if-x-y.false

pub returns-then-x-i : goal.returns-then-x-i
returns-then-x-i c = sym (differ-at _ _ _ c.if-x-i.true)

pub loop-i-preserved : goal.loop-i-preserved
loop-i-preserved c = alike-step _ _ _ c.loop-i-test.true c.loop-i.invariant c.if-x-i.false
