-- `value::arithmetic::power` meets its contract.
use Rattle.std.proofs.Common.{◌≡◌, rules, pos, Err, refl, ap, ◌∙◌}
use Rattle.numbers.specs.Reasons.{reason_of}
use Rattle.numbers.specs.declared.refusals.Reason.TheVariants as Re
use Rattle.numbers.proofs.Mapped.{kept, failed}
use Rattle.rules.specs.Arithmetic.{raised}
use Rattle.ints.proofs.Signed.{read, unconverted, converted}
use Rattle.ints.specs.Checked.{checked}
use Rattle.value.proofs.arithmetic.power.Goals as goal

pub returns-in_err-exponent : goal.returns-in_err-exponent
unfolding checked reason_of raised
returns-in_err-exponent c =
    let p = failed c.try_from.result c.map_err.result Re.NotWorkedOut c.from_residual.result c.map_err.ensures.cases c.from_residual.ensures.1 c.in_err-exponent.was (λ e d q. search rules) in
    rw p.2 (unconverted c.args.y c.ranges.y (rw p.1 at c.try_from.ensures) (λ z. checked (Err Re.NotWorkedOut) ≡ raised c.args.x z) (λ n. refl))

pub returns : goal.returns
returns c = let h = rw (kept c.try_from.result c.map_err.result _ c.map_err.ensures.cases c.in_ok-exponent.was) at c.try_from.ensures in
    rw (converted c.args.y c.ranges.y _ h.0 h.1) (c.pow.ensures ∙ ap (λ z. raised z (pos c.in_ok-exponent.exponent)) (read c.args.x c.ranges.x))
