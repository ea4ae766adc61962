-- `x.ok_or(k)?`: what x was, by what came of it.
use Rattle.std.specs.Prelude.{◌≡◌, Option, Some, None, Result, Err}
use Rattle.std.specs.Option.{ok_or}
use Rattle.std.specs.Result.{IsErrAnd}
use Rattle.std.proofs.lemmas.Result.{err_from_is_err_and}

-- at its exit x was none, and the caller's result is k
pub missing : {A B K : Type 0} (r : Result A K) {k e : K} (o : Option B) → IsErrAnd r (λ d. d ≡ e) → Err e ≡ ok_or o k → (o ≡ None) × (r ≡ Err k)
missing r (Some y) h g = cc
missing r None h g = let p = err_from_is_err_and r h in (cc, cc)
