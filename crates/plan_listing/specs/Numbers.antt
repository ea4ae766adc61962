-- No refusal has the number 0, by which the entry tells a plan.
use Rattle.std.specs.Prelude.{◌≡◌, false, eqb}
use Rattle.std.proofs.Common.{arith, ne_eqb}
use Rattle.rules.specs.Refusals.{Reason, refusal_number}
use Rattle.numbers.specs.Reasons.{reason-numbers}

pub not-zero : (r : Reason) → eqb (refusal_number r) 0 ≡ false
not-zero r = ne_eqb (refusal_number r) 0 (λ z. omega (arith, z, (reason-numbers r).0))
