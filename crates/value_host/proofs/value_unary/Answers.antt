-- `value_host::value_unary` meets its contract.
use mathlib.Core.Path.{ap, ◌∙◌}
use Rattle.value_host.specs.Numbers.{answer_of}
use Rattle.value_host.proofs.Held.{unary-from}
use Rattle.value_host.proofs.value_unary.Goals as goal

pub returns : goal.returns
returns c = λ t q. c.answered.ensures t q ∙
    ap answer_of (c.unary.ensures t q ∙ unary-from _ _ (c.value_at.ensures t q))
