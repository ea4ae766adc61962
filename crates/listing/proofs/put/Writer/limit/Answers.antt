-- `limit`: the source and the number.
use Rattle.listing.specs.Fields.{fields-then, fields-same}
use Rattle.listing.specs.Nodes.{limit_fields}
use Rattle.numbers.specs.Bits.{joined}
use Rattle.listing.proofs.put.Writer.limit.Goals as goal

pub returns : goal.returns
unfolding limit_fields joined
returns c = fields-same (fields-then c.number-2.ensures c.long.ensures) (λ d q. cc)
