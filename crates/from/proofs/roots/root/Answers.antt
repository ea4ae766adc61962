-- `roots::root`: from the last root on, as many as stand behind the one.
use native.Mathlib.Omega.{arith}
use Prim.Native.Nat.{◌+◌, ◌-◌}
use Rattle.std.specs.Prelude.{◌≡◌}
use Rattle.from.specs.Roots.{finds-none, finds-some, finds-on, finds-end}
use Rattle.from.proofs.roots.root.Goals as goal

pub returns-then-count-k : goal.returns-then-count-k
returns-then-count-k c = finds-none _ _ _ _ c.items-count.ensures c.if-count-k.true

pub overflow_sub-end : goal.overflow_sub-end
overflow_sub-end c = finds-some _ _ _ _ _ c.loop.invariant

pub loop-preserved : goal.loop-preserved
loop-preserved c =
    let e : c.items-count.result + c.args.k + 1 - c.loop.counter - 1 ≡ c.items-count.result + c.args.k + 1 - (c.loop.counter + 1) = omega arith in
    rw e at (finds-on _ _ _ _ _ _ c.first-end.ensures (omega (arith, c.loop-test.true)) c.loop.invariant)

pub overflow_sub-result : goal.overflow_sub-result
overflow_sub-result c = finds-some _ _ _ _ _ c.loop.invariant

pub returns : goal.returns
returns c = finds-end _ _ _ _ _ (omega (arith, c.loop-test.false)) c.loop.invariant
