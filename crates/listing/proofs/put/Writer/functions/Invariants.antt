-- `functions`: the fields of the parts before those left are put.
use Rattle.listing.specs.Parts.{PartLoop}
use Rattle.listing.specs.Nodes.{function_fields}
use Rattle.listing.proofs.put.Writer.functions.Given as goal

abbrev pub invariant-loop-function : goal.invariant-loop-function
invariant-loop-function l = PartLoop l.fn.self l.self 2 (λ d q. function_fields 0) l.s l.function-iterator
