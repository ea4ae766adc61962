-- A number of 0 or more: a float is none, whichever its bits.
use mathlib.Core.Path.{◌≡◌}
use Prim.Native.Nat.{ℕ}
use native.Mathlib.Omega.{arith}
use Rattle.rules.specs.BuildSelect.{natural}
use Rattle.rules.specs.Refusals.{Reason}
use Rattle.rules.specs.Schema.{Value}
use Rattle.value.specs.Values.{held}

pub natural-held : (r : Reason) (l : ℕ) (v : Value) → natural r l (held v) ≡ natural r l v
unfolding natural held
natural-held r l v = grind arith
