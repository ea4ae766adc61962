-- `keys`: the fields of the parts before those left are put.
use Rattle.listing.specs.Parts.{PartLoop}
use Rattle.listing.specs.Nodes.{key_fields}
use Rattle.listing.proofs.put.Writer.keys.Given as goal

abbrev pub invariant-loop-key : goal.invariant-loop-key
invariant-loop-key l = PartLoop l.fn.self l.self 2 (λ d q. key_fields 0) l.s l.key-iterator
