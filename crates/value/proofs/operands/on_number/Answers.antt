-- `value::operands::on_number` meets its contract.
use Rattle.std.proofs.Common.{arith, sym, ap, ◌∙◌}
use Rattle.std.proofs.lemmas.Grind.{common_steps}
use Rattle.numbers.specs.Reasons.{reason_of}
use Rattle.ints.proofs.Signed.{read-mag, stored-fits}
use Rattle.value.specs.Operands.{number_of}
use Rattle.value.specs.Values.{value_of, worked_of}
use Rattle.value.specs.declared.Value.{Value}
use Rattle.value.proofs.Floats.{of-bits}
use Rattle.value.proofs.Maps.{ints-mapped, floats-mapped}
use Rattle.value.proofs.SameImage.{same-image}
use Rattle.value.proofs.operands.on_number.Goals as goal

pub returns-in-Null : goal.returns-in-Null
unfolding worked_of value_of number_of
returns-in-Null g c = λ i f t q h k. same-image (λ (a : Value). number_of i f (value_of t q a)) c.in-Null.is

pub returns-in-Int : goal.returns-in-Int
unfolding value_of number_of
returns-in-Int g c = λ i f t q h k. ints-mapped t q _ _ c.map.ensures.cases ∙ h _ (stored-fits c.in-Int.x (omega arith)) _ c.on_int.ensures
    ∙ ap i (read-mag c.in-Int.x (omega arith)) ∙ same-image (λ (a : Value). number_of i f (value_of t q a)) c.in-Int.is

pub returns-in-Float : goal.returns-in-Float
unfolding value_of number_of
returns-in-Float g c = λ i f t q h k. floats-mapped t q _ _ c.map-in-Float.ensures.cases ∙ k _ _ c.on_float.ensures
    ∙ ap f (sym (of-bits _ (cc))) ∙ same-image (λ (a : Value). number_of i f (value_of t q a)) c.in-Float.is

pub returns-in_default : goal.returns-in_default
unfolding worked_of value_of number_of reason_of
returns-in_default g c = λ i f t q h k. grind (arith, common_steps)
