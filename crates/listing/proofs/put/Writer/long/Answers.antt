-- `long`: a tab and the digits.
use Rattle.listing.specs.Fields.{field}
use Rattle.listing.proofs.put.Writer.long.Goals as goal

pub returns : goal.returns
returns c = field c.byte.ensures c.decimal.ensures
