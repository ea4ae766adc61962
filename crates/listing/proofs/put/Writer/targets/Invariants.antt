-- `targets`: the fields of the numbers counted are put.
use Rattle.std.proofs.Common.{drop, ◌*◌}
use Rattle.listing.specs.Fields.{FieldsIn}
use Rattle.listing.specs.Lines.{listed}
use Rattle.listing.specs.Nodes.{target_fields}
use Rattle.listing.proofs.put.Writer.targets.Given as goal

abbrev pub invariant-loop-x : goal.invariant-loop-x
invariant-loop-x l = FieldsIn l.fn.self l.self (λ d q. listed l.x-index (λ j. target_fields j (drop (j * 1) l.s)))
