-- `items::put_rows`: starred columns, stored one after the other.
use Rattle.std.specs.Prelude.{length}
use Rattle.build_projection.specs.Steps.{Filling}
use Rattle.build_projection.proofs.items.put_rows.Given as goal

abbrev pub invariant-loop-i : goal.invariant-loop-i
invariant-loop-i l = Filling l.initial.items 0 l.first (length l.initial.items) l.i l.items
