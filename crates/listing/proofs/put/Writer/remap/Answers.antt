-- `remap`: the source, and the parts behind it.
use Rattle.listing.specs.Fields.{fields-then, fields-same}
use Rattle.listing.specs.Nodes.{remap_fields}
use Rattle.listing.proofs.put.Writer.remap.Goals as goal

pub returns : goal.returns
unfolding remap_fields
returns c = fields-same (fields-then c.number-2.ensures c.targets.ensures) (λ d q. cc)
