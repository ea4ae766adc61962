-- `join`: the sources, the kind and the predicate.
use Rattle.rules.specs.Lines.{bytes}
use Rattle.text.specs.Words.{words_of, push}
use Rattle.listing.specs.Fields.{fields-then, fields-same}
use Rattle.listing.specs.Nodes.{join_fields}
use Rattle.listing.specs.Words.{word_at}
use Rattle.listing.proofs.put.Writer.join.Goals as goal

pub returns : goal.returns
unfolding join_fields bytes word_at words_of push
returns c = fields-same (fields-then c.number-2.ensures (fields-then c.number-4.ensures (fields-then c.word.ensures c.given.ensures))) (λ d q. cc)
