-- A flag as a number.
use Rattle.std.specs.Prelude.{◌≡◌, Bool}
use native.Mathlib.Omega.{arith}
use mir.Val.{bool_byte}
use Rattle.rules.specs.Area.{flag}

pub byte_flag : (b : Bool) → bool_byte b ≡ flag b
unfolding flag
byte_flag b = grind arith
