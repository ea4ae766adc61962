-- Laws of totals over a list, and over the answers to each entry of one.
use Rattle.std.specs.Prelude.{ℕ, ◌+◌, ◌*◌, ◌≤◌, ◌≡◌, refl, List, [], ◌∷◌, ◌++◌, map}
use Rattle.std.proofs.Common.{arith, ap}
use Rattle.rules.specs.Refusals.{Answer}
use Rattle.rules.specs.Sizes.{total}
use Rattle.rules.specs.BuildExpression.{each}
use Rattle.claims.specs.Answers.{Ensures, then, All}

pub total-append : {A : Type 0} (f : A → ℕ) (xs ys : List A) → total f (xs ++ ys) ≡ total f xs + total f ys
unfolding total
total-append f [] ys = omega arith
total-append f (x ∷ xs) ys = omega (arith, total-append f xs ys)

pub total-map : {A B : Type 0} (f : B → ℕ) (g : A → B) (as' : List A) → total f (map g as') ≡ total (λ a. f (g a)) as'
unfolding total
total-map f g [] = refl
total-map f g (a ∷ as') = ap (λ n. f (g a) + n) (total-map f g as')

-- three for each of another total's
pub total-most : {A : Type 0} (f g : A → ℕ) → ((a : A) → f a ≤ 3 * g a) → (as' : List A) → total f as' ≤ 3 * total g as'
unfolding total
total-most f g k [] = omega arith
total-most f g k (a ∷ as') = omega (arith, k a, total-most f g k as')

-- the same of a sum, where it holds of every entry
pub all_most : {A : Type 0} (f g h : A → ℕ) (as' : List A) → All (λ a. f a + g a ≤ 3 * h a) as' → total f as' + total g as' ≤ 3 * total h as'
unfolding total All
all_most f g h [] p = omega arith
all_most f g h (a ∷ as') p = omega (arith, p.0, all_most f g h as' p.1)

-- where each answer has the number that its entry says, the answers have the total
pub each-total : {A B : Type 0} (f : A → Answer B) (m : B → ℕ) (k : A → ℕ) → ((a : A) → Ensures (f a) (λ b. m b ≡ k a))
    → (as' : List A) → Ensures (each f as') (λ bs. total m bs ≡ total k as')
unfolding each total
each-total f m k h [] = refl
each-total f m k h (a ∷ as') = then (f a) _ _ _ (h a) λ b hb. then (each f as') _ _ _ (each-total f m k h as') λ bs hs. omega arith

-- what an entry's acceptance shows of it holds of all, where all are accepted
pub each-accepted : {A B : Type 0} (f : A → Answer B) (P : A → Type 0) → ((a : A) → Ensures (f a) (λ b. P a))
    → (as' : List A) → Ensures (each f as') (λ bs. All P as')
unfolding each All
each-accepted f P h [] = tt
each-accepted f P h (a ∷ as') = then (f a) _ _ _ (h a) λ b p. then (each f as') _ _ _ (each-accepted f P h as') λ bs ps. (p, ps)
