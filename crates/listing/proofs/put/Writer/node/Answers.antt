-- `node`: the first field, the number, the node's fields, and LF.
use Rattle.rules.specs.Lines.{bytes}
use Rattle.listing.specs.Fields.{fields-then}
use Rattle.listing.specs.Lines.{line}
use Rattle.listing.specs.Nodes.{node_line}
use Rattle.listing.proofs.put.Writer.node.Goals as goal

pub returns : goal.returns
unfolding node_line bytes
returns c = line c.bytes.ensures (fields-then c.number.ensures c.node_fields.ensures) c.byte.ensures
