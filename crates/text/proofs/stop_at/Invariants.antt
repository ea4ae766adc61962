-- `stop_at`: from here on the first such byte is the one that is looked for.
use Prim.Native.Nat.{◌-◌}
use mathlib.Core.Path.{◌≡◌}
use lib.ListN.{length}
use Rattle.text.specs.Bytes.{stop_at}
use Rattle.text.proofs.stop_at.Given as goal

abbrev pub invariant-loop-i : goal.invariant-loop-i
invariant-loop-i l = stop_at l.x l.y l.t l.i ≡ stop_at l.x l.y l.t l.at

abbrev pub decreases-loop-i : goal.decreases-loop-i
decreases-loop-i l = length l.t - l.i
