-- `reference`: there may be none.
use Rattle.listing.specs.Fields.{fields-none}
use Rattle.listing.specs.Places.{reference_of}
use Rattle.listing.proofs.put.Writer.reference.Goals as goal

pub returns-in_default : goal.returns-in_default
unfolding reference_of
returns-in_default c = rw c.in_default.is fields-none
