-- `value_host::binary`: the operator of the code, or none.
use Rattle.std.proofs.Common.{rules, sym, ◌∙◌}
use Rattle.numbers.specs.declared.refusals.Reason.TheVariants as Re
use Rattle.numbers.proofs.Mapped.{kept, failed}
use Rattle.numbers.specs.Reasons.{reason_of}
use Rattle.value.specs.Values.{worked_of}
use Rattle.value_host.proofs.Coded.{binary-worked, binary-fails}
use Rattle.value_host.proofs.binary.Goals as goal

pub returns-in_err-operator : goal.returns-in_err-operator
unfolding worked_of reason_of
returns-in_err-operator c =
    let p = failed c.try_from.result c.map_err.result Re.NotWorkedOut c.from_residual.result c.map_err.ensures.cases c.from_residual.ensures.1 c.in_err-operator.was (λ e d q. search rules) in
    rw p.2 (sym (binary-fails _ _ _ (rw p.1 at c.try_from.ensures)))

pub returns : goal.returns
returns c = c.binary.ensures ∙ sym (binary-worked _ _ _ _ (rw (kept c.try_from.result c.map_err.result _ c.map_err.ensures.cases c.in_ok-operator.was) at c.try_from.ensures))
