-- `x.map_err(|_| k)?`: what x was, by what came of it.
use Rattle.std.specs.Prelude.{◌≡◌, Result, Ok, Err, MatchResult}
use Rattle.std.specs.Result.{IsErrAnd}
use Rattle.std.proofs.lemmas.Result.{err_from_is_err_and}

module _ {A E K : Type 0} (o : Result A E) (r : Result A K) where
  pub kept : (Q : E → K → Type 0) → MatchResult o (λ x. r ≡ Ok x) (λ e. IsErrAnd r (Q e)) → {x : A} → r ≡ Ok x → o ≡ Ok x
  kept Q m w = go o m w
    where
      go : (o : Result A E) → MatchResult o (λ x. r ≡ Ok x) (λ e. IsErrAnd r (Q e)) → {x : A} → r ≡ Ok x → o ≡ Ok x
      go (Ok y) m w = cc
      go (Err e) m w = let p = err_from_is_err_and r m in cc

  -- the caller's result s is k
  pub failed : {B : Type 0} {Q : E → K → Type 0} {d : K} (k : K) (s : Result B K) → MatchResult o (λ x. r ≡ Ok x) (λ e. IsErrAnd r (Q e))
      → IsErrAnd s (λ e. e ≡ d) → r ≡ Err d → ((e : E) (f : K) → Q e f → f ≡ k) → (e : E) × (o ≡ Err e) × (s ≡ Err k)
  failed {B} {Q} {d} k s m h w q = go o m
    where
      go : (o : Result A E) → MatchResult o (λ x. r ≡ Ok x) (λ e. IsErrAnd r (Q e)) → (e : E) × (o ≡ Err e) × (s ≡ Err k)
      go (Ok y) m = cc
      go (Err e) m = let p = err_from_is_err_and r m in let n = q e p.0 p.2 in let t = err_from_is_err_and s h in (e, cc, cc)
