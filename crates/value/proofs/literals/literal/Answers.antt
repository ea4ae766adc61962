-- `value::literals::literal`: the numbers, by the kind.
use Rattle.std.proofs.Common.{sym, ap, ◌∙◌}
use Rattle.rules.specs.Schema.{int}
use Rattle.numbers.specs.Bits.{signed, signed-bits}
use Rattle.numbers.specs.Literals.{literal_of}
use Rattle.ints.proofs.Signed.{read-mag}
use Rattle.value.specs.Values.{value_of, held}
use Rattle.value.proofs.literals.literal.Goals as goal

pub returns-in-Int : goal.returns-in-Int
unfolding value_of held literal_of
returns-in-Int c = λ t q. rw c.in-Int.is (ap int
    (read-mag _ c.from_bits.type_inv ∙ sym (signed-bits _ c.from_bits.type_inv) ∙ ap signed (c.from_bits.ensures ∙ c.bits-n.ensures)))
