-- `bits`: the digits are those of the rules.
use Rattle.std.proofs.Common.{rules, ap, [], ◌∷◌}
use Rattle.listing.specs.Fields.{fields-same}
use Rattle.listing.specs.Decimals.{hex-of}
use Rattle.listing.proofs.put.Writer.bits.Goals as goal

pub returns : goal.returns
returns c = fields-same c.field.ensures (λ d q. ap (λ b. b ∷ [])
    (hex-of _ c.hex-k.result _ c.hex-k.ensures.len (search rules) c.hex-k.ensures.digits))
