-- Steps of a do-block: an accepted step goes on, a refused one ends the whole; and the rules' two guards as such steps.
use Rattle.std.specs.Prelude.{ℕ, zero, suc, ◌≤◌, ◌≡◌, refl, Bool, true, false, List, [], ◌∷◌, ◌++◌, length}
use Rattle.std.proofs.Common.{arith}
use Rattle.std.proofs.Math.Option.{none, some}
use Rattle.rules.specs.Refusals.{Refusal, Reason, limit_passed, Answer, ok, refused, ◌>>=◌, refuse, refuse_if, at_most}
use Rattle.rules.specs.Lists.{entry_after}

-- STEPS
pub bind_ok : {A B : Type 0} (r : Answer A) (f : A → Answer B) (a : A) → r ≡ ok a → (r >>= f) ≡ f a
unfolding ◌>>=◌
bind_ok r f a e = rw e

pub bind-refused : {A B : Type 0} (r : Answer A) (f : A → Answer B) (w : Refusal) → r ≡ refused w
    → (r >>= f) ≡ refused w
unfolding ◌>>=◌
bind-refused r f w e = rw e

pub ok_same : {A : Type 0} {a b : A} → ◌≡◌ {A = Answer A} (ok a) (ok b) → a ≡ b
ok_same e = cc

-- no answer is both accepted and refused
pub ok-not-refused : {A : Type 0} {X : Type 0} (a : A) (w : Refusal) → ◌≡◌ {A = Answer A} (ok a) (refused w) → X
ok-not-refused a w e = grind arith

-- GUARDS
pub refuse_if-passed : {B : Type 0} (b : Bool) (r : Reason) (l : ℕ) (f : Unit {0} → Answer B) → b ≡ false
    → (refuse_if b r l >>= f) ≡ f tt
unfolding refuse_if ◌>>=◌
refuse_if-passed b r l f e = rw e

pub refuse_if-refused : {B : Type 0} (b : Bool) (r : Reason) (l : ℕ) (f : Unit {0} → Answer B) → b ≡ true
    → (refuse_if b r l >>= f) ≡ refuse r l
unfolding refuse_if refuse ◌>>=◌
refuse_if-refused b r l f e = rw e

none_after : {A : Type 0} (n : ℕ) (xs : List A) → length xs ≤ n → entry_after n xs ≡ none
unfolding entry_after
none_after n [] h = refl
none_after zero (x ∷ xs) h = absurd (omega arith)
none_after (suc n) (x ∷ xs) h = none_after n xs (omega arith)

one-after : {A : Type 0} (n : ℕ) (xs : List A) (a : A) (ys : List A) → length xs ≡ n
    → entry_after n (xs ++ (a ∷ ys)) ≡ some a
unfolding entry_after
one-after zero [] a ys h = refl
one-after (suc n) [] a ys h = absurd (omega arith)
one-after zero (x ∷ xs) a ys h = absurd (omega arith)
one-after (suc n) (x ∷ xs) a ys h = one-after n xs a ys (omega arith)

-- at most n entries pass
pub at_most-passed : {A B : Type 0} (n : ℕ) (line : A → ℕ) (xs : List A) (f : Unit {0} → Answer B) → length xs ≤ n
    → (at_most n line xs >>= f) ≡ f tt
unfolding at_most ◌>>=◌
at_most-passed n line xs f h = bind_ok (at_most n line xs) f tt (rw (none_after n xs h, at_most))

-- and with more, the one behind the first n is refused
pub at_most-refused : {A B : Type 0} (n : ℕ) (line : A → ℕ) (xs : List A) (a : A) (ys : List A) (f : Unit {0} → Answer B)
    → length xs ≡ n → (at_most n line (xs ++ (a ∷ ys)) >>= f) ≡ refuse limit_passed (line a)
unfolding at_most refuse
at_most-refused n line xs a ys f h = bind-refused _ f _ (rw (one-after n xs a ys h, at_most))
