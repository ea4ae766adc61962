-- What `map` makes of the number that a closure gave.
use Rattle.std.proofs.Common.{◌≡◌, ℤ, Float, ap}
use Rattle.std.specs.Prelude.{Result, Ok, Err, MatchResult}
use Rattle.std.specs.Result.{IsOkAnd}
use Rattle.numbers.specs.declared.refusals.Reason.{Reason}
use Rattle.rules.specs.Lists.{Bytes}
use Rattle.rules.specs.Arithmetic.{floating}
use Rattle.ints.specs.Checked.{checked}
use Rattle.value.specs.Operands.{floated}
use Rattle.value.specs.Values.{value_of, worked_of}
use Rattle.value.specs.declared.Value.{Value}
use Rattle.value.specs.declared.Value.TheVariants as Va

pub ints-mapped : (t q : Bytes) (o : Result ℤ Reason) (r : Result Value Reason) → MatchResult o (λ x. IsOkAnd r (λ v. v ≡ Va.Int x)) (λ e. r ≡ Err e)
    → worked_of t q r ≡ checked o
unfolding worked_of value_of checked
ints-mapped t q (Ok x) (Ok v) m = ap (λ (v : Value). worked_of t q (Ok v)) m
ints-mapped t q (Ok x) (Err e) m = elim m [ ]
ints-mapped t q (Err e) r m = ap (worked_of t q) m

pub floats-mapped : (t q : Bytes) (o : Result Float Reason) (r : Result Value Reason) → MatchResult o (λ x. IsOkAnd r (λ v. v ≡ Va.Float x)) (λ e. r ≡ Err e)
    → worked_of t q r ≡ floated o
unfolding worked_of value_of floated floating
floats-mapped t q (Ok x) (Ok v) m = ap (λ (v : Value). worked_of t q (Ok v)) m
floats-mapped t q (Ok x) (Err e) m = elim m [ ]
floats-mapped t q (Err e) r m = ap (worked_of t q) m
