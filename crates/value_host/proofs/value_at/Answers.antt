-- `value_host::value_at`: by its kind.
use Rattle.std.proofs.Common.{refl, ap, ◌∙◌}
use Rattle.value.specs.Values.{held}
use Rattle.value_host.proofs.Halves.{text-by, other-by}
use Rattle.value_host.proofs.value_at.Goals as goal

pub returns-in-Text : goal.returns-in-Text
returns-in-Text c = λ t q. c.literal.ensures t q
    ∙ ap held (text-by t q _ _ c.of_number-kind.ensures c.low.ensures c.high.ensures c.in-Text.is)

pub returns-in_default : goal.returns-in_default
returns-in_default c = λ t q. rw c.of_bits.ensures at (c.literal-in_default.ensures t q)
    ∙ ap held (other-by t q _ _ c.of_number-kind.ensures refl refl (search))
