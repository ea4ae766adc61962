-- `default`: the word of the kind, what stands behind it, and LF.
use Rattle.rules.specs.Lines.{bytes}
use Rattle.text.specs.Words.{words_of, push}
use Rattle.listing.specs.Lines.{line, lines_same}
use Rattle.listing.specs.Own.{default_line}
use Rattle.listing.specs.Words.{word_at}
use Rattle.listing.proofs.put.Writer.default.Goals as goal

pub returns : goal.returns
unfolding default_line bytes word_at words_of push
returns c = lines_same (line c.bytes.ensures c.constant.ensures c.byte.ensures) (λ d q. cc)
