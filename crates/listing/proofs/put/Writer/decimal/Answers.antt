-- `decimal`: the digits are those of the rules.
use Rattle.std.proofs.Common.{rules}
use Rattle.listing.specs.Put.{puts-same}
use Rattle.listing.specs.Decimals.{decimal-of}
use Rattle.listing.proofs.put.Writer.decimal.Goals as goal

pub returns : goal.returns
returns c = puts-same c.bytes.ensures
    (decimal-of _ c.decimal-k.result _ c.decimal-k.ensures.len (search rules) c.decimal-k.ensures.digits)
