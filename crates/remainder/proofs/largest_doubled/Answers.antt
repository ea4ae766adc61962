-- `remainder::largest_doubled` meets its contract.
use Rattle.std.proofs.Common.{subst, sym, ℕ}
use native.Mathlib.Omega.{arith}
use Prim.Native.Nat.{◌+◌, ◌≤◌}
use lib.Ieee.{add, binary64}
use lib.Ieee.Fits.{add-fits}
use lib.Ieee.Bits.{is_true}
use Rattle.remainder.specs.Steps.{steps, IsDoubled}
use Rattle.remainder.proofs.Numbers.{doubled_more}
use Rattle.remainder.proofs.Sizes.{twice_in, not_twice_in, doubled, some, nearer}
use Rattle.remainder.proofs.largest_doubled.Goals as goal

pub loop-t-smaller : goal.loop-t-smaller
loop-t-smaller c =
    let i = c.loop-t.invariant in
    let l = twice_in c.args.x c.loop-t.t c.well_formed.0.1 i.3 c.requires.number i.0 i.2 c.loop-t-test.true in
    nearer (steps c.args.x) (steps c.loop-t.t) (steps (add binary64 c.loop-t.t c.loop-t.t)) (some (steps c.args.y) (steps c.loop-t.t) i.1 c.requires.some) l
    (doubled c.args.x c.loop-t.t c.well_formed.0.1 i.3 c.requires.number i.0 l).1

pub loop-t-preserved : goal.loop-t-preserved
loop-t-preserved c =
    let i = c.loop-t.invariant in
    let l = twice_in c.args.x c.loop-t.t c.well_formed.0.1 i.3 c.requires.number i.0 i.2 c.loop-t-test.true in
    let d = doubled c.args.x c.loop-t.t c.well_formed.0.1 i.3 c.requires.number i.0 l in
    let b : steps c.loop-t.t + steps c.loop-t.t ≤ steps c.args.x = omega arith in (
      d.0,
      subst (λ (n : ℕ). IsDoubled (steps c.args.y) n) (sym d.1) (doubled_more (steps c.args.y) (steps c.loop-t.t) i.1),
      subst (λ (n : ℕ). n ≤ steps c.args.x) (sym d.1) b,
      is_true _ (add-fits binary64 c.loop-t.t c.loop-t.t),
    )

pub returns-clause-largest : goal.returns-clause-largest
returns-clause-largest c =
    let i = c.loop-t.invariant in
    not_twice_in c.args.x c.loop-t.t c.well_formed.0.1 i.3 c.requires.number i.0 i.2 c.loop-t-test.false
