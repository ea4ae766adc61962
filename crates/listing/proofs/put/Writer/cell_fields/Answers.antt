-- `cell_fields`: by the kind.
use Rattle.rules.specs.Lines.{bytes}
use Rattle.text.specs.Words.{words_of, push}
use Rattle.numbers.specs.Bits.{joined}
use Rattle.listing.specs.Fields.{fields-then, fields-same}
use Rattle.listing.specs.Cells.{kind_word, cell_fields, rest-constant, rest-operand, operand-null, operand-nan, operand-one, operand-two}
use Rattle.listing.specs.Words.{word_at}
use Rattle.listing.proofs.put.Writer.cell_fields.Goals as goal

pub returns-then-k-lt-COLUMN : goal.returns-then-k-lt-COLUMN
unfolding cell_fields kind_word bytes word_at words_of push
returns-then-k-lt-COLUMN c = fields-same (fields-then c.word.ensures c.constant.ensures)
    (λ d q. cc (rest-constant d q c.number-k.result c.args.s.now c.if-k-lt-COLUMN.true))

pub returns-then-k-eq-IS_NULL : goal.returns-then-k-eq-IS_NULL
unfolding cell_fields kind_word bytes word_at words_of push
returns-then-k-eq-IS_NULL c = fields-same (fields-then c.word.ensures (fields-then c.number-2.ensures c.field.ensures))
    (λ d q. cc (rest-operand d q c.number-k.result c.args.s.now c.if-k-lt-COLUMN.false, operand-null c.number-k.result c.args.s.now c.if-k-eq-IS_NULL.true))

pub returns-then-k-eq-IS_NAN : goal.returns-then-k-eq-IS_NAN
unfolding cell_fields kind_word bytes word_at words_of push joined
returns-then-k-eq-IS_NAN c = fields-same
    (fields-then c.word.ensures (fields-then c.number-2.ensures (fields-then c.field-then-k-eq-IS_NAN.ensures c.bits.ensures)))
    (λ d q. cc (
      rest-operand d q c.number-k.result c.args.s.now c.if-k-lt-COLUMN.false,
      operand-nan c.number-k.result c.args.s.now c.if-k-eq-IS_NULL.false c.if-k-eq-IS_NAN.true,
    ))

pub returns-then-k-lt-BINARY : goal.returns-then-k-lt-BINARY
unfolding cell_fields kind_word bytes word_at words_of push
returns-then-k-lt-BINARY c = fields-same (fields-then c.word.ensures c.number-2.ensures)
    (λ d q. cc (
      rest-operand d q c.number-k.result c.args.s.now c.if-k-lt-COLUMN.false,
      operand-one c.number-k.result c.args.s.now c.if-k-eq-IS_NULL.false c.if-k-eq-IS_NAN.false c.if-k-lt-BINARY.true,
    ))

pub returns : goal.returns
unfolding cell_fields kind_word bytes word_at words_of push
returns c = fields-same (fields-then c.word.ensures (fields-then c.number-2.ensures c.number-4.ensures))
    (λ d q. cc (
      rest-operand d q c.number-k.result c.args.s.now c.if-k-lt-COLUMN.false,
      operand-two c.number-k.result c.args.s.now c.if-k-eq-IS_NULL.false c.if-k-eq-IS_NAN.false c.if-k-lt-BINARY.false,
    ))
