-- A column that was looked up: its position, or a refusal.
use Rattle.std.specs.Prelude.{ℕ, ◌≡◌, Result, MatchResult, IsErrAnd, Ok, Err}
use Rattle.std.proofs.Common.{ap, ◌∙◌}
use Rattle.std.proofs.lemmas.Result.{err_from_is_err_and}
use Rattle.rules.specs.Refusals.{Answer, refuse}
use Rattle.rules.specs.BuildExpression.{found}
use Rattle.numbers.specs.Reasons.{named-reason}
use Rattle.numbers.specs.declared.refusals.Reason.{Reason}
use Rattle.numbers.specs.declared.refusals.Refusal.{Refusal}
use Rattle.scope.specs.Lookup.{found_of}
use Rattle.plan.specs.Emits.{result_by}

unfoldable pub position_of : Answer ℕ → Result ℕ Refusal
position_of = result_by λ i. i

-- a reason of a look-up, put at a line
pub position-at : (l : ℕ) (f : Result ℕ Reason) (r : Result ℕ Refusal) {Q : Reason → Refusal → Type 0}
    → MatchResult f (λ i. r ≡ Ok i) (λ k. IsErrAnd r (Q k)) → ((k : Reason) (w : Refusal) → Q k w → w ≡ record { reason = k; line = l })
    → r ≡ position_of (found l (found_of f))
unfolding position_of found found_of refuse
position-at l (Ok i) r h g = h
position-at l (Err k) r h g = let w = err_from_is_err_and r h in rw (named-reason k) (w.1 ∙ ap Err (g k w.0 w.2))
