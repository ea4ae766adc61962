-- `order`: the source, and the parts behind it.
use Rattle.listing.specs.Fields.{fields-then, fields-same}
use Rattle.listing.specs.Nodes.{order_fields}
use Rattle.listing.proofs.put.Writer.order.Goals as goal

pub returns : goal.returns
unfolding order_fields
returns c = fields-same (fields-then c.number-2.ensures c.keys.ensures) (λ d q. cc)
