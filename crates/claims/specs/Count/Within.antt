-- What the test for a limit lets through.
use Rattle.std.specs.Prelude.{ℕ, zero, suc, ◌≤◌, ◌≡◌, refl, List, [], ◌∷◌, length}
use Rattle.std.proofs.Common.{arith}
use Rattle.std.proofs.Math.Option.{Option, none, some}
use Rattle.rules.specs.Refusals.{ok, refuse, limit_passed, at_most}
use Rattle.rules.specs.Lists.{entry_after}
use Rattle.claims.specs.Answers.{Ensures, refusing}

-- a list with no entry behind the first n has at most n
pub none_after : {A : Type 0} (n : ℕ) (as' : List A) → entry_after n as' ≡ none → length as' ≤ n
unfolding entry_after
none_after n [] h = omega arith
none_after zero (a ∷ as') h = grind arith
none_after (suc n) (a ∷ as') h = omega (arith, none_after n as' h)

pub at-most : {A : Type 0} (n : ℕ) (f : A → ℕ) (as' : List A) → Ensures (at_most n f as') (λ u. length as' ≤ n)
unfolding at_most
at-most n f as' = go (entry_after n as') refl
  where
    go : (o : Option _) → entry_after n as' ≡ o
        → Ensures {A = Unit {0}} (elim o [ none ↦ ok tt | some a ↦ refuse limit_passed (f a) ]) (λ u. length as' ≤ n)
    go none e = none_after n as' e
    go (some x) e = refusing limit_passed (f x) _
