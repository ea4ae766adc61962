-- `refusal_line`: the line of a refusal, its text's word by the number.
use Rattle.rules.specs.Lines.{bytes}
use Rattle.text.specs.Words.{words_of, push}
use Rattle.listing.specs.Fields.{fields-then}
use Rattle.listing.specs.Lines.{line, lines_same}
use Rattle.listing.specs.Listed.{refusal_line}
use Rattle.listing.specs.Words.{word_at}
use Rattle.listing.proofs.put.Writer.refusal_line.Goals as goal

pub returns : goal.returns
unfolding refusal_line bytes word_at words_of push
returns c = lines_same (line c.bytes.ensures (fields-then c.number.ensures (fields-then c.word.ensures c.number-2.ensures)) c.byte.ensures) (λ d q. cc)
