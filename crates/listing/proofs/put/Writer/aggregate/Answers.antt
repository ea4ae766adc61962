-- `aggregate`: the source, the groups and the functions.
use Rattle.listing.specs.Fields.{fields-then, fields-same}
use Rattle.listing.specs.Nodes.{aggregate_fields}
use Rattle.listing.proofs.put.Writer.aggregate.Goals as goal

pub returns : goal.returns
unfolding aggregate_fields
returns c = fields-same (fields-then c.number-2.ensures (fields-then c.numbers.ensures c.functions.ensures)) (λ d q. cc)
