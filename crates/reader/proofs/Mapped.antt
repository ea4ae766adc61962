-- `x.map_err(g)?`: what x was where it failed.
use Rattle.std.specs.Prelude.{◌≡◌, Result, Ok, Err, MatchResult}
use Rattle.std.specs.Result.{IsErrAnd}
use Rattle.std.proofs.lemmas.Result.{err_from_is_err_and}

-- the caller's result s is what g makes of the refusal
module _ {A B E K : Type 0} {Q : E → K → Type 0} {d : K} (o : Result A E) (r : Result A K) (g : E → K) (s : Result B K) where
  pub failed_by : MatchResult o (λ x. r ≡ Ok x) (λ e. IsErrAnd r (Q e)) → IsErrAnd s (λ e. e ≡ d) → r ≡ Err d
      → ((e : E) (f : K) → Q e f → f ≡ g e) → (e : E) × (o ≡ Err e) × (s ≡ Err (g e))
  failed_by m h w q = go o m
    where
      go : (o : Result A E) → MatchResult o (λ x. r ≡ Ok x) (λ e. IsErrAnd r (Q e)) → (e : E) × (o ≡ Err e) × (s ≡ Err (g e))
      go (Ok y) m = cc
      go (Err e) m = let p = err_from_is_err_and r m in let n = q e p.0 p.2 in let t = err_from_is_err_and s h in (e, cc, cc)
