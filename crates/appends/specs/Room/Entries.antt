-- The cells of a list's entries: each appends at most what k says of it.
use Rattle.std.specs.Prelude.{ℕ, ◌≤◌, List, [], ◌∷◌, map}
use Rattle.std.proofs.Common.{arith}
use Rattle.rules.specs.Refusals.{Answer}
use Rattle.rules.specs.Plan.{Built}
use Rattle.rules.specs.Cells.{built_count, count_all}
use Rattle.rules.specs.BuildExpression.{each}
use Rattle.rules.specs.Sizes.{total}
use Rattle.claims.specs.Answers.{Ensures, then}

-- the cells of accepted entries
pub entries-within : {A B : Type 0} (f : A → Answer B) (key : B → Built) (k : A → ℕ)
    → ((a : A) → Ensures (f a) (λ b. built_count (key b) ≤ k a)) → (as' : List A)
    → Ensures (each f as') (λ bs. count_all (map key bs) ≤ total k as')
unfolding each count_all total
entries-within f key k h [] = omega arith
entries-within f key k h (a ∷ as') = then (f a) _ _ _ (h a) λ b g.
    then (each f as') _ _ _ (entries-within f key k h as') λ bs i. omega (arith, g, i)
