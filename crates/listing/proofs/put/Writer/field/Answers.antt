-- `field`: a tab and the field.
use Rattle.listing.specs.Fields.{field}
use Rattle.listing.proofs.put.Writer.field.Goals as goal

pub returns : goal.returns
returns c = field c.byte.ensures c.bytes.ensures
