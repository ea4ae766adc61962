-- The operators of the table as the code reads them: by their codes, the least where the number is none.
use Rattle.std.specs.Prelude.{ℕ, ◌≡◌, Result, Ok, Err, MatchResult}
use Rattle.std.specs.Result.{result_unwrap_or}
use Rattle.std.proofs.Common.{sym, ap, ◌∙◌}
use Rattle.rules.specs.Codes.{unary_code, binary_code}
use Rattle.numbers.specs.Codes.{Apart, coded_none}
use Rattle.numbers.specs.Operators.{unary_operator, binary_operator}
use Rattle.numbers.specs.declared.operators.Unary.{Unary}
use Rattle.numbers.specs.declared.operators.Unary.TheVariants as U
use Rattle.numbers.specs.declared.UnknownNumber.{UnknownNumber}
use Rattle.numbers.specs.declared.operators.Binary.{Binary}
use Rattle.numbers.specs.declared.operators.Binary.TheVariants as B
use Rattle.ast.specs.Table.{unary_at, binary_at}
use Rattle.ast.specs.Row.{unary-back, binary-back}

pub unary-read : (k : ℕ) (x : Result Unary UnknownNumber) → MatchResult x (λ o. unary_code (unary_operator o) ≡ k) (λ _. Apart k 8 5)
    → unary_operator (result_unwrap_or x U.Not) ≡ unary_at k
unfolding unary_operator unary_at
unary-read k (Err e) h = sym (coded_none _ _ 8 k h)
unary-read k (Ok o) h = sym (unary-back (unary_operator o)) ∙ ap unary_at h

pub binary-read : (k : ℕ) (x : Result Binary UnknownNumber) → MatchResult x (λ o. binary_code (binary_operator o) ≡ k) (λ _. Apart k 16 15)
    → binary_operator (result_unwrap_or x B.And) ≡ binary_at k
unfolding binary_operator binary_at
binary-read k (Err e) h = sym (coded_none _ _ 16 k h)
binary-read k (Ok o) h = sym (binary-back (binary_operator o)) ∙ ap binary_at h
