-- `length_at`: no more than n bytes.
use native.Mathlib.Omega.{arith}
use Prim.Native.Nat.{◌≤◌}
use lib.ListN.{length}
use Rattle.text.specs.Places.{bytes-most}
use Rattle.text.proofs.places.Texts.length_at.Goals as goal

pub overflow_cast-result : goal.overflow_cast-result
overflow_cast-result c = let k : length c.bytes_at.result.now ≤ c.args.place.length = rw c.bytes_at.ensures (bytes-most _ _ _ _) in omega (arith, k, c.well_formed.1)
