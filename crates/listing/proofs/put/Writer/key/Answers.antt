-- `key`: the cell, and the direction behind it.
use Rattle.rules.specs.Lines.{bytes}
use Rattle.text.specs.Words.{words_of, push}
use Rattle.listing.specs.Fields.{fields-then, fields-same}
use Rattle.listing.specs.Nodes.{key_fields}
use Rattle.listing.specs.Words.{word_at}
use Rattle.listing.proofs.put.Writer.key.Goals as goal

pub returns : goal.returns
unfolding key_fields bytes word_at words_of push
returns c = fields-same (fields-then c.number-2.ensures c.word.ensures) (λ d q. cc)
