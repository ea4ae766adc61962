-- `ints::pow` meets its contract.
use native.Mathlib.Omega.{arith}
use Rattle.std.proofs.Common.{rules, ap, ◌∙◌}
use Rattle.ints.specs.Checked.{checked}
use Rattle.numbers.specs.declared.refusals.Reason.TheVariants as Re
use Rattle.numbers.proofs.Mapped.{kept, failed}
use Rattle.ints.proofs.Operations.{of-power, power-past}
use Rattle.ints.proofs.pow.Goals as goal

pub returns-in_err-exponent : goal.returns-in_err-exponent
returns-in_err-exponent c =
    let p = failed c.try_from.result c.map_err.result Re.IntegerOverflow c.from_residual.result c.map_err.ensures.cases c.from_residual.ensures.1 c.in_err-exponent.was (λ e d q. search rules) in
    ap checked p.2 ∙ power-past c.args.x c.args.e (omega (arith, rw p.1 at c.try_from.ensures))

pub returns : goal.returns
returns c = let h = rw (kept c.try_from.result c.map_err.result _ c.map_err.ensures.cases c.in_ok-exponent.was) at c.try_from.ensures in
    of-power c.args.x c.ranges.x _ c.ok_or.ensures.value c.args.e _ h.1 (omega (arith, h.0)) c.checked_pow.ensures
