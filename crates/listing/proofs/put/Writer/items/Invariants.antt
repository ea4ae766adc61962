-- `items`: the fields of the parts before those left are put.
use Rattle.listing.specs.Parts.{PartLoop}
use Rattle.listing.specs.Nodes.{item_fields}
use Rattle.listing.proofs.put.Writer.items.Given as goal

abbrev pub invariant-loop-item : goal.invariant-loop-item
invariant-loop-item l = PartLoop l.fn.self l.self 3 (λ d q. item_fields d q 0) l.s l.item-iterator
