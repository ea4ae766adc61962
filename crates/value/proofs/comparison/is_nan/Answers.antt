-- `value::comparison::is_nan` meets its contract.
use Rattle.std.proofs.Common.{rules, Bool, sym, ap, ◌∙◌}
use lib.Ieee as Ieee
use Rattle.rules.specs.Arithmetic.{gives}
use Rattle.rules.specs.Operators.{is_of, is_nan}
use Rattle.rules.specs.Schema.{bool, float}
use Rattle.value.specs.Values.{value_of, worked_of}
use Rattle.value.specs.declared.Value.{Value}
use Rattle.value.proofs.Floats.{of-bits}
use Rattle.value.proofs.SameImage.{same-image}
use Rattle.value.proofs.comparison.is_nan.Goals as goal

pub returns-in-Float : goal.returns-in-Float
unfolding worked_of value_of is_of is_nan
returns-in-Float c = λ n t q. ap (λ (b : Bool). gives (bool b)) (c.is_nan.ensures.value ∙ ap Ieee.is_nan (sym (of-bits c.in-Float.x (search rules))))
    ∙ same-image (λ (a : Value). is_of (float n) (value_of t q a)) c.in-Float.is
