-- `remainder::of_sizes` meets its contract.
use Rattle.std.proofs.Common.{subst, sym, ℕ, ◌∙◌, ap, ◌≡◌}
use native.Mathlib.Nat.{mod-eq_of_lt}
use Prim.Native.Nat.{◌+◌, ◌*◌, ◌%◌, ◌<◌}
use native.Mathlib.Omega.{arith}
use lib.Ieee.{binary64, of_bits}
use lib.Ieee.Fits.{mul-fits}
use lib.Ieee.Bits.{is_true}
use Rattle.remainder.specs.Steps.{steps, IsDoubled}
use Rattle.remainder.proofs.Sizes.{below, at_least, half, is_remainder, some, under, kept_rest, last}
use Rattle.remainder.proofs.of_sizes.Goals as goal

pub returns-then-x-y : goal.returns-then-x-y
returns-then-x-y c =
    let l = below c.args.x c.args.y c.well_formed.0.1 c.well_formed.1.0.1 c.requires.number c.requires.divisor c.if-x-y.true in
    is_remainder c.args.x c.args.y c.well_formed.0.1 c.well_formed.1.0.1 c.requires.number c.requires.divisor c.args.x c.well_formed.0.1 c.requires.number c.requires.some (sym (mod-eq_of_lt l))

pub largest_doubled-t-requires-clause-order : goal.largest_doubled-t-requires-clause-order
largest_doubled-t-requires-clause-order c = at_least c.args.x c.args.y c.well_formed.0.1 c.well_formed.1.0.1 c.requires.number c.requires.divisor c.if-x-y.false

pub reduced-r-requires-in-loop-t-clause-divisor : goal.reduced-r-requires-in-loop-t-clause-divisor
reduced-r-requires-in-loop-t-clause-divisor c =
    let i = c.loop-t.invariant in
    let l = below c.args.y c.loop-t.t c.well_formed.1.0.1 i.4 c.requires.divisor i.0 c.loop-t-test.true in
    (half c.args.y c.loop-t.t c.well_formed.1.0.1 i.4 c.requires.divisor i.0 i.1 c.requires.some l).2.0

pub reduced-r-requires-in-loop-t-clause-some : goal.reduced-r-requires-in-loop-t-clause-some
reduced-r-requires-in-loop-t-clause-some c =
    let i = c.loop-t.invariant in
    let l = below c.args.y c.loop-t.t c.well_formed.1.0.1 i.4 c.requires.divisor i.0 c.loop-t-test.true in
    let h = half c.args.y c.loop-t.t c.well_formed.1.0.1 i.4 c.requires.divisor i.0 i.1 c.requires.some l in
    subst (λ (n : ℕ). 0 < n) (sym h.2.1) (some (steps c.args.y) h.0 h.3 c.requires.some)

pub reduced-r-requires-in-loop-t-clause-below : goal.reduced-r-requires-in-loop-t-clause-below
reduced-r-requires-in-loop-t-clause-below c =
    let i = c.loop-t.invariant in
    let l = below c.args.y c.loop-t.t c.well_formed.1.0.1 i.4 c.requires.divisor i.0 c.loop-t-test.true in
    let h = half c.args.y c.loop-t.t c.well_formed.1.0.1 i.4 c.requires.divisor i.0 i.1 c.requires.some l in
    subst (λ (n : ℕ). steps c.loop-t.r < 2 * n) (sym h.2.1)
    (under (steps c.loop-t.r) (steps c.args.x) (steps c.loop-t.t) h.0 (some (steps c.args.y) h.0 h.3 c.requires.some) h.1 i.3)

smaller : (t a k : ℕ) → 0 < k → t ≡ k + k → a ≡ k → a < t
smaller t a k p e f = omega arith

pub loop-t-smaller : goal.loop-t-smaller
loop-t-smaller c =
    let i = c.loop-t.invariant in
    let l = below c.args.y c.loop-t.t c.well_formed.1.0.1 i.4 c.requires.divisor i.0 c.loop-t-test.true in
    let h = half c.args.y c.loop-t.t c.well_formed.1.0.1 i.4 c.requires.divisor i.0 i.1 c.requires.some l in
    smaller (steps c.loop-t.t) _ h.0 (some (steps c.args.y) h.0 h.3 c.requires.some) h.1 h.2.1

pub loop-t-preserved : goal.loop-t-preserved
loop-t-preserved c =
    let i = c.loop-t.invariant in
    let l = below c.args.y c.loop-t.t c.well_formed.1.0.1 i.4 c.requires.divisor i.0 c.loop-t-test.true in
    let h = half c.args.y c.loop-t.t c.well_formed.1.0.1 i.4 c.requires.divisor i.0 i.1 c.requires.some l in
    let s = c.reduced-r-in-loop-t in (
      h.2.0,
      subst (λ (n : ℕ). IsDoubled (steps c.args.y) n) (sym h.2.1) h.3,
      s.ensures.size,
      subst (λ (n : ℕ). steps s.result ≡ steps c.args.x % n) (sym h.2.1)
          (kept_rest (steps s.result) (steps c.loop-t.r) (steps c.args.x) (steps c.loop-t.t) h.0 (some (steps c.args.y) h.0 h.3 c.requires.some) h.1 i.3
          (s.ensures.value ∙ ap (λ (n : ℕ). steps c.loop-t.r % n) h.2.1)),
      is_true _ (mul-fits binary64 c.loop-t.t (of_bits binary64 0x3fe0_0000_0000_0000)),
      s.type_inv,
    )

pub returns : goal.returns
returns c =
    let i = c.loop-t.invariant in
    is_remainder c.args.x c.args.y c.well_formed.0.1 c.well_formed.1.0.1 c.requires.number c.requires.divisor c.loop-t.r i.5 i.2 c.requires.some
    (i.3 ∙ ap (λ (n : ℕ). steps c.args.x % n) (last (steps c.args.y) (steps c.loop-t.t) i.1 (at_least c.args.y c.loop-t.t c.well_formed.1.0.1 i.4 c.requires.divisor i.0 c.loop-t-test.false)))
