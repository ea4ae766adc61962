-- `filter`: the source and the cell.
use Rattle.listing.specs.Fields.{fields-then, fields-same}
use Rattle.listing.specs.Nodes.{filter_fields}
use Rattle.listing.proofs.put.Writer.filter.Goals as goal

pub returns : goal.returns
unfolding filter_fields
returns c = fields-same (fields-then c.number-2.ensures c.number-4.ensures) (λ d q. cc)
