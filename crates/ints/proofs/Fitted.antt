-- What `fitted` gives of a number that fits 64 bits, and of another.
use mathlib.Core.Logic.{◌⊎◌, inl, inr}
use mathlib.Core.Path.{◌≡◌, ap, ◌∙◌}
use Prim.Native.Nat.{ℕ, ◌<◌, ◌≤◌, ◌^◌}
use lib.IntN.{ℤ, pos}
use lib.Signed.{mag}
use mir.Syntax.{w64}
use borrow.Author.Tests.{lt-ltb, le-ltb}
use Rattle.std.specs.Prelude.{Option, None, Some, SomeIff, Result, Ok, Err, OkIff, MatchResult}
use Rattle.std.specs.Option.{ok_or}
use Rattle.std.specs.Result.{IsErrAnd}
use Rattle.std.proofs.lemmas.Result.{err_from_is_err_and}
use Rattle.numbers.specs.declared.refusals.Reason.{Reason}
use Rattle.std.specs.Int.RustNames.{FitsSigned}
use Rattle.std.proofs.lemmas.Bool.{cases_lt}
use Rattle.rules.specs.Arithmetic.{gives, fails, fitted}
use Rattle.rules.specs.Refusals.{integer_overflow}
use Rattle.rules.specs.Schema.{int}
use Rattle.numbers.specs.Reasons.{reason_of}
use Rattle.numbers.specs.declared.refusals.Reason.TheVariants as Re
use Rattle.ints.specs.Checked.{checked}

pub fits : (z : ℤ) → mag z < 2 ^ 63 → gives (int z) ≡ fitted z
unfolding fitted
fits z h = rw (fitted, lt-ltb (mag z) (2 ^ 63) h)

pub over : (z : ℤ) → 2 ^ 63 ≤ mag z → fails integer_overflow ≡ fitted z
unfolding fitted
over z h = rw (fitted, le-ltb (mag z) (2 ^ 63) h)

-- the answer of std's checked operation, by the result z
pub of-option : (z : ℤ) (o : Option ℤ) → SomeIff o (FitsSigned w64 z) z → checked (ok_or o Re.IntegerOverflow) ≡ fitted z
unfolding checked reason_of
of-option z (Some x) h = ap (λ (v : ℤ). gives (int v)) h.1 ∙ fits z h.0.sfits
of-option z None h = over z (no-fit z h)
  where
    no-fit : (z : ℤ) → (FitsSigned w64 z → ⊥) → 2 ^ 63 ≤ mag z
    no-fit z h = go (cases_lt (mag z) (2 ^ 63))
      where
        go : (mag z < 2 ^ 63) ⊎ (2 ^ 63 ≤ mag z) → 2 ^ 63 ≤ mag z
        go (inl l) = absurd (h (record { sfits = l }))
        go (inr l) = l

-- the same of a conversion of p
pub of-conversion : {E : Type 0} (p : ℕ) (o : Result ℤ E) (r : Result ℤ Reason) {Q : E → Reason → Type 0} → OkIff o (FitsSigned w64 (pos p)) (pos p)
    → MatchResult o (λ x. r ≡ Ok x) (λ e. IsErrAnd r (Q e)) → ((e : E) (d : Reason) → Q e d → d ≡ Re.IntegerOverflow) → checked r ≡ fitted (pos p)
of-conversion p (Ok z) r h m q = ap checked m ∙ of-option (pos p) (Some z) h
of-conversion p (Err e) r h m q =
    let w = err_from_is_err_and r m in
    ap checked (w.1 ∙ ap Err (q e w.0 w.2)) ∙ of-option (pos p) None h

-- what a checked operation said
pub taken : {A : Type 0} (o : Option A) (P : Type 0) {v x : A} → SomeIff o P v → o ≡ Some x → x ≡ v
taken (Some y) P h e = cc
taken None P h e = cc

pub missed : {A P : Type 0} (o : Option A) (v : A) → SomeIff o P v → o ≡ None → P → ⊥
missed (Some y) v h e = cc
missed None v h e = h

-- the exit of `ok_or(k)?`
pub exit : {A B : Type 0} (r : Result A Reason) (k : Reason) {e : Reason} (o : Option B) → IsErrAnd r (λ d. d ≡ e) → Err e ≡ ok_or o k → r ≡ Err k
exit r k (Some y) h g = cc
exit r k None h g = let p = err_from_is_err_and r h in cc
