-- `scan`: the table, its alias and its key.
use Rattle.listing.specs.Fields.{fields-then, fields-same}
use Rattle.listing.specs.Nodes.{scan_fields}
use Rattle.listing.specs.Places.{alias-numbers}
use Rattle.listing.proofs.put.Writer.scan.Goals as goal

pub returns : goal.returns
unfolding scan_fields
returns c = fields-same (fields-then c.place.ensures (fields-then c.alias.ensures c.given.ensures)) (λ d q. rw (c.place_at.ensures, c.optional_place_at.ensures, alias-numbers, c.of_number.ensures, c.number.ensures))
