-- `column`: the fields of the column, and LF.
use Rattle.rules.specs.Lines.{bytes}
use Rattle.text.specs.Words.{words_of, push}
use Rattle.listing.specs.Fields.{fields-then}
use Rattle.listing.specs.Lines.{line, lines_same}
use Rattle.listing.specs.Own.{column_line}
use Rattle.listing.specs.Places.{reference-numbers}
use Rattle.listing.specs.Words.{word_at}
use Rattle.listing.proofs.put.Writer.column.Goals as goal

pub returns : goal.returns
unfolding column_line bytes word_at words_of push
returns c = lines_same (line c.bytes.ensures (fields-then c.place.ensures (fields-then c.word.ensures (fields-then c.word-2.ensures (fields-then c.word-3.ensures (fields-then c.word-4.ensures c.reference.ensures))))) c.byte.ensures) (λ d q. rw (c.place_at.ensures, c.number.ensures, c.number-2.ensures, c.number-3.ensures, c.number-4.ensures, c.optional_place_at.ensures, reference-numbers))
