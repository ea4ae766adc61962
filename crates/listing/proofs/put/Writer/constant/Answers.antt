-- `constant`: by the kind.
use Rattle.std.proofs.Common.{arith, sym, ap, ◌∙◌}
use Rattle.rules.specs.Lines.{bytes}
use Rattle.text.specs.Words.{words_of, push}
use Rattle.numbers.specs.Bits.{joined}
use Rattle.numbers.specs.Literals.{kind_number, kind_at}
use Rattle.numbers.specs.declared.literals.LiteralKind.TheVariants as L
use Rattle.listing.specs.Fields.{fields-same, fields-none}
use Rattle.listing.specs.Choices.{choose}
use Rattle.listing.specs.Cells.{value_rest, kind_kept, value-null}
use Rattle.listing.specs.Words.{word_at}
use Rattle.listing.proofs.put.Writer.constant.Goals as goal

pub returns-in-Null : goal.returns-in-Null
returns-in-Null c = fields-same fields-none (λ d q. value-null d q _ _ (ap kind_at (sym c.number.ensures) ∙ sym c.of_number.ensures ∙ c.in-Null.is))

pub returns-in-Bool : goal.returns-in-Bool
unfolding value_rest choose bytes word_at words_of push kind_number
returns-in-Bool c = rw (sym c.number.ensures ∙ kind_kept _ L.Bool (sym c.of_number.ensures ∙ c.in-Bool.is) (λ z. omega arith))
    (fields-same c.word.ensures (λ d q. cc))

pub returns-in-Int : goal.returns-in-Int
unfolding value_rest choose joined kind_number
returns-in-Int c = rw (sym c.number.ensures ∙ kind_kept _ L.Int (sym c.of_number.ensures ∙ c.in-Int.is) (λ z. omega arith))
    (fields-same c.integer.ensures (λ d q. cc))

pub returns-in-Float : goal.returns-in-Float
unfolding value_rest choose joined kind_number
returns-in-Float c = rw (sym c.number.ensures ∙ kind_kept _ L.Float (sym c.of_number.ensures ∙ c.in-Float.is) (λ z. omega arith))
    (fields-same c.bits.ensures (λ d q. cc))

pub returns-in-Text : goal.returns-in-Text
unfolding value_rest choose kind_number
returns-in-Text c = rw (sym c.number.ensures ∙ kind_kept _ L.Text (sym c.of_number.ensures ∙ c.in-Text.is) (λ z. omega arith))
    (fields-same c.place.ensures (λ d q. cc))
