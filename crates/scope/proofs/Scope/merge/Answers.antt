-- `Scope::merge`: the other scope's labels and tables stand behind the own ones.
use native.Mathlib.Omega.{arith}
use Prim.Native.Nat.{◌+◌}
use mathlib.Core.Path.{ap}
use Rattle.scope.specs.Merge.{slot_at, merged}
use Rattle.scope.proofs.Scope.merge.Goals as goal

pub behind-requires : goal.behind-requires
behind-requires c = omega (arith, slot_at c.requires c.loop-j.j, c.loop-j.invariant.3)

pub returns : goal.returns
returns c = let i = c.loop-j.invariant in
    merged _ c.requires i.5 (omega arith) c.loop-j-test.false
    (rw i.1 at c.overwrite.ensures) i.0 i.4
    (ap (λ x. x + c.args.other.now.width) i.2) (ap (λ x. x + c.args.other.now.count) i.3)
