-- `value_host::value_is_nan` meets its contract.
use mathlib.Core.Path.{ap, ◌∙◌}
use Rattle.rules.specs.Schema.{float}
use Rattle.value_host.specs.Numbers.{answer_of}
use Rattle.value_host.proofs.Held.{is-from}
use Rattle.value_host.proofs.value_is_nan.Goals as goal

pub returns : goal.returns
returns c = λ m t q. c.answered.ensures t q ∙
    ap answer_of (c.is_nan.ensures m t q ∙ is-from (float m) _ (c.value_at.ensures t q))
