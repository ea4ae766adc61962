-- `any_fields`: the fields read and those from the next position on are the line's.
use mathlib.Core.Path.{◌≡◌}
use lib.ListN.{length}
use Rattle.text.specs.Lines.{Reading}
use Rattle.text.proofs.any_fields.Given as goal

abbrev pub invariant-loop-n : goal.invariant-loop-n
invariant-loop-n l = (length l.fields ≡ 12) × Reading l.t l.at l.fields l.n l.p
