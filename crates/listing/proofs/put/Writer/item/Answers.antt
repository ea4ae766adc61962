-- `item`: the cell, and the alias behind it.
use Rattle.listing.specs.Fields.{fields-then, fields-same}
use Rattle.listing.specs.Nodes.{item_fields}
use Rattle.listing.specs.Places.{alias-numbers}
use Rattle.listing.proofs.put.Writer.item.Goals as goal

pub returns : goal.returns
unfolding item_fields
returns c = fields-same (fields-then c.number-2.ensures c.alias.ensures) (λ d q. rw (c.number.ensures, c.optional_place_at.ensures, alias-numbers))
