-- `value::operands::on_numbers` meets its contract.
use Rattle.std.proofs.Common.{rules, arith, sym, ap, ◌∙◌}
use Rattle.std.proofs.lemmas.Grind.{common_steps}
use lib.Ieee.{binary64, of_int}
use Rattle.rules.specs.Arithmetic.{numbers, arithmetic, rounded}
use Rattle.numbers.specs.Reasons.{reason_of}
use Rattle.ints.proofs.Signed.{read-mag, stored-fits}
use Rattle.value.specs.Values.{value_of, worked_of}
use Rattle.value.specs.declared.Value.{Value}
use Rattle.value.proofs.Floats.{of-bits}
use Rattle.value.proofs.Maps.{ints-mapped, floats-mapped}
use Rattle.value.proofs.SameImage.{same-image2}
use Rattle.value.proofs.operands.on_numbers.Goals as goal

pub returns-in-Int-Int : goal.returns-in-Int-Int
unfolding numbers arithmetic value_of
returns-in-Int-Int g c = λ i f t q h k. ints-mapped t q _ _ c.map.ensures.cases
    ∙ h _ _ (stored-fits c.in-Int-Int.x (omega arith)) (stored-fits c.in-Int-Int.y (omega arith)) _ c.on_ints.ensures
    ∙ (λ j. i (read-mag c.in-Int-Int.x (omega arith) j) (read-mag c.in-Int-Int.y (omega arith) j))
    ∙ same-image2 (λ (a b : Value). arithmetic i f (numbers (value_of t q a) (value_of t q b))) c.in-Int-Int.is-0 c.in-Int-Int.is-1

pub returns-in-Int-Float : goal.returns-in-Int-Float
unfolding numbers arithmetic value_of rounded
returns-in-Int-Float g c = λ i f t q h k. floats-mapped t q _ _ c.map-in-Int-Float.ensures.cases ∙ k _ _ _ c.on_floats.ensures
    ∙ (λ j. f ((c.nearest_i64_to_f64.ensures ∙ ap (of_int binary64) (read-mag c.in-Int-Float.x (omega arith))) j) (sym (of-bits c.in-Int-Float.y (cc)) j))
    ∙ same-image2 (λ (a b : Value). arithmetic i f (numbers (value_of t q a) (value_of t q b))) c.in-Int-Float.is-0 c.in-Int-Float.is-1

pub returns-in-Float-Int : goal.returns-in-Float-Int
unfolding numbers arithmetic value_of rounded
returns-in-Float-Int g c = λ i f t q h k. floats-mapped t q _ _ c.map-in-Float-Int.ensures.cases ∙ k _ _ _ c.on_floats-in-Float-Int.ensures
    ∙ (λ j. f (sym (of-bits c.in-Float-Int.x (search rules)) j) ((c.nearest_i64_to_f64-in-Float-Int.ensures ∙ ap (of_int binary64) (read-mag c.in-Float-Int.y (omega arith))) j))
    ∙ same-image2 (λ (a b : Value). arithmetic i f (numbers (value_of t q a) (value_of t q b))) c.in-Float-Int.is-0 c.in-Float-Int.is-1

pub returns-in-Float-Float : goal.returns-in-Float-Float
unfolding numbers arithmetic value_of
returns-in-Float-Float g c = λ i f t q h k. floats-mapped t q _ _ c.map-in-Float-Float.ensures.cases ∙ k _ _ _ c.on_floats-in-Float-Float.ensures
    ∙ (λ j. f (sym (of-bits c.in-Float-Float.x (grind arith)) j) (sym (of-bits c.in-Float-Float.y (cc)) j))
    ∙ same-image2 (λ (a b : Value). arithmetic i f (numbers (value_of t q a) (value_of t q b))) c.in-Float-Float.is-0 c.in-Float-Float.is-1

pub returns-in-Null-Null : goal.returns-in-Null-Null
unfolding numbers arithmetic value_of worked_of reason_of
returns-in-Null-Null g c = λ i f t q h k. grind (arith, common_steps)

pub returns-in-Int-Null : goal.returns-in-Int-Null
unfolding numbers arithmetic value_of worked_of reason_of
returns-in-Int-Null g c = λ i f t q h k. grind (arith, common_steps)

pub returns-in_default : goal.returns-in_default
unfolding numbers arithmetic value_of worked_of reason_of
returns-in_default g c = λ i f t q h k. grind (arith, common_steps)
