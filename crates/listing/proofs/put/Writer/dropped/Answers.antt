-- `dropped`: the first field, the name, whether it may be missing, and LF.
use Rattle.rules.specs.Lines.{bytes}
use Rattle.text.specs.Words.{words_of, push}
use Rattle.listing.specs.Fields.{fields-then}
use Rattle.listing.specs.Lines.{line, lines_same}
use Rattle.listing.specs.Own.{drop_line}
use Rattle.listing.specs.Words.{word_at}
use Rattle.listing.proofs.put.Writer.dropped.Goals as goal

pub returns : goal.returns
unfolding drop_line bytes word_at words_of push
returns c = lines_same (line c.bytes.ensures (fields-then c.place.ensures c.word.ensures) c.byte.ensures) (λ d q. rw (c.place_at.ensures, c.number.ensures))
