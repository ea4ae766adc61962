-- `value_host::value_is_null` meets its contract.
use mathlib.Core.Path.{ap, ◌∙◌}
use Rattle.rules.specs.Schema.{null}
use Rattle.value_host.specs.Numbers.{answer_of}
use Rattle.value_host.proofs.Held.{is-from}
use Rattle.value_host.proofs.value_is_null.Goals as goal

pub returns : goal.returns
returns c = λ t q. c.answered.ensures t q ∙
    ap answer_of (c.is_null.ensures t q ∙ is-from null _ (c.value_at.ensures t q))
