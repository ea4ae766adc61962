-- `project`: the source, and the parts behind it.
use Rattle.listing.specs.Fields.{fields-then, fields-same}
use Rattle.listing.specs.Nodes.{project_fields}
use Rattle.listing.proofs.put.Writer.project.Goals as goal

pub returns : goal.returns
unfolding project_fields
returns c = fields-same (fields-then c.number-2.ensures c.items.ensures) (λ d q. cc)
