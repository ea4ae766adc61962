-- `node_fields`: by whether the number is a kind's.
use Rattle.listing.specs.Fields.{fields-then, fields-same}
use Rattle.listing.specs.Nodes.{node_fields, node-is, node-none, rest-none}
use Rattle.listing.proofs.put.Writer.node_fields.Goals as goal

pub returns-in_default : goal.returns-in_default
unfolding node_fields
returns-in_default c = let n = rw c.number.ensures at c.in_default.ensures in
    fields-same c.field.ensures (λ d q. rw (← node-none _ n, ← rest-none d q _ _ n))

pub returns : goal.returns
unfolding node_fields
returns c = let e = rw c.number.ensures at c.in-Ok.ensures in
    fields-same (fields-then c.field-2.ensures c.node_rest.ensures) (λ d q. rw (c.kind_word.ensures, node-is _ c.in-Ok.kind e, ← e) cc)
