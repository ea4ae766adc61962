-- What holds in each case of a test holds of its result.
use Rattle.std.specs.Prelude.{ℕ, ◌≡◌, refl, Bool, true, false, List}
use Rattle.std.proofs.Math.Option.{Option, none, some}
use Rattle.rules.specs.Refusals.{Reason, Answer, ◌>>=◌, refuse, refuse_if, limit_passed, at_most}
use Rattle.rules.specs.Lists.{entry_after}
use Rattle.claims.specs.Answers.{Ensures, refusing}

pub either_way : {A : Type 0} (Q : A → Type 0) (b : Bool) (x y : A) → Q x → Q y → Q (elim b [ true ↦ x | false ↦ y ])
either_way Q true x y p q = p
either_way Q false x y p q = q

pub tested : {A : Type 0} (b : Bool) (x y : Answer A) (Q : A → Type 0) → Ensures x Q → Ensures y Q → Ensures (elim b [ true ↦ x | false ↦ y ]) Q
tested b x y Q = either_way (λ m. Ensures m Q) b x y

-- GUARDS
-- behind a guard its test is false
pub guarded : {B : Type 0} (b : Bool) (n : Reason) (l : ℕ) (f : Unit {0} → Answer B) (Q : B → Type 0)
    → (b ≡ false → Ensures (f tt) Q) → Ensures (refuse_if b n l >>= f) Q
unfolding refuse_if refuse ◌>>=◌
guarded true n l f Q k = tt
guarded false n l f Q k = k refl

-- behind a limit there is no entry past it
pub limited : {A B : Type 0} (n : ℕ) (line : A → ℕ) (xs : List A) (f : Unit {0} → Answer B) (Q : B → Type 0)
    → (entry_after n xs ≡ none → Ensures (f tt) Q) → Ensures (at_most n line xs >>= f) Q
unfolding at_most refuse ◌>>=◌
limited n line xs f Q k = go (entry_after n xs) refl
  where
    go : (o : Option _) → entry_after n xs ≡ o
        → Ensures ((elim o [ none ↦ Rattle.rules.specs.Refusals.ok tt | some a ↦ refuse limit_passed (line a) ]) >>= f) Q
    go none e = k e
    go (some a) e = tt

-- REFUSED
-- an answer that is refused where a test passes
pub unless : {A : Type 0} (b : Bool) (n : Reason) (l : ℕ) (m : Answer A) (Q : A → Type 0) → Ensures m Q → Ensures (elim b [ true ↦ refuse n l | false ↦ m ]) Q
unless true n l m Q h = refusing n l Q
unless false n l m Q h = h

-- an answer that is refused where there is no value
pub provided : {A B : Type 0} (o : Option B) (n : Reason) (l : ℕ) (f : B → Answer A) (Q : A → Type 0) → ((b : B) → o ≡ some b → Ensures (f b) Q)
    → Ensures (elim o [ some b ↦ f b | none ↦ refuse n l ]) Q
provided none n l f Q k = refusing n l Q
provided (some b) n l f Q k = k b refl
