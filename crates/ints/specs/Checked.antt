-- The answer of a checked operation: 25 overflow, 26 divided by zero.
use Rattle.std.specs.Prelude.{ℤ, Result, Ok, Err}
use Rattle.rules.specs.Schema.{int}
use Rattle.rules.specs.Arithmetic.{Worked, gives, fails}
use Rattle.numbers.specs.Reasons.{reason_of}
use Rattle.numbers.specs.declared.refusals.Reason.{Reason}

unfoldable pub checked : Result ℤ Reason → Worked
checked (Ok z) = gives (int z)
checked (Err r) = fails (reason_of r)
