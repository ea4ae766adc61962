-- `packed`: the bytes behind those that are left are packed.
use Rattle.text.specs.Packed.{Left}
use Rattle.text.proofs.packed.Given as goal

abbrev pub invariant-loop-b : goal.invariant-loop-b
invariant-loop-b l = Left l.word l.b-iterator.iter.rest.now l.v
