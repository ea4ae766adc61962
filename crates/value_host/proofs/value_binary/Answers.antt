-- `value_host::value_binary` meets its contract.
use mathlib.Core.Path.{ap, ◌∙◌}
use Rattle.value_host.specs.Numbers.{answer_of}
use Rattle.value_host.proofs.Held.{binary-from}
use Rattle.value_host.proofs.value_binary.Goals as goal

pub returns : goal.returns
returns c = c.answered.ensures _ _ ∙
    ap answer_of (c.binary.ensures ∙ binary-from _ _ (c.value_at-a.ensures _ _) _ (c.value_at-b.ensures _ _))
