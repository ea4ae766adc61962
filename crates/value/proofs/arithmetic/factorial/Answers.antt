-- `value::arithmetic::factorial` meets its contract.
use Rattle.std.proofs.Common.{◌≡◌, rules, Err, refl}
use Rattle.numbers.specs.Reasons.{reason_of}
use Rattle.numbers.specs.declared.refusals.Reason.TheVariants as Re
use Rattle.numbers.proofs.Mapped.{kept, failed}
use Rattle.rules.specs.Arithmetic.{factorial}
use Rattle.ints.proofs.Signed.{unconverted, converted}
use Rattle.ints.specs.Checked.{checked}
use Rattle.value.proofs.arithmetic.factorial.Goals as goal

pub returns-in_err-n : goal.returns-in_err-n
unfolding checked reason_of factorial
returns-in_err-n c =
    let p = failed c.try_from.result c.map_err.result Re.WrongOperand c.from_residual.result c.map_err.ensures.cases c.from_residual.ensures.1 c.in_err-n.was (λ e d q. search rules) in
    rw p.2 (unconverted c.args.x c.ranges.x (rw p.1 at c.try_from.ensures) (λ z. checked (Err Re.WrongOperand) ≡ factorial z) (λ n. refl))

pub returns : goal.returns
returns c = let h = rw (kept c.try_from.result c.map_err.result _ c.map_err.ensures.cases c.in_ok-n.was) at c.try_from.ensures in
    rw (converted c.args.x c.ranges.x _ h.0 h.1) c.factorial.ensures
