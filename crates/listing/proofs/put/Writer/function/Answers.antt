-- `function`: the name, and the cell behind it.
use Rattle.rules.specs.Lines.{bytes}
use Rattle.text.specs.Words.{words_of, push}
use Rattle.listing.specs.Fields.{fields-then, fields-same}
use Rattle.listing.specs.Nodes.{function_fields}
use Rattle.listing.specs.Words.{word_at}
use Rattle.listing.proofs.put.Writer.function.Goals as goal

pub returns : goal.returns
unfolding function_fields bytes word_at words_of push
returns c = fields-same (fields-then c.word.ensures c.number-3.ensures) (λ d q. cc)
