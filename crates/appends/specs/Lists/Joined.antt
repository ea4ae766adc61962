-- Lists joined: their answers, cells and counts stand one behind the other.
use Rattle.std.specs.Prelude.{ℕ, ◌+◌, ◌≡◌, refl, List, [], ◌∷◌, ◌++◌, map}
use Rattle.std.proofs.Common.{arith, add_assoc, add-zero, sym, append_assoc}
use Rattle.rules.specs.Refusals.{Answer, ok, refused, ◌>>=◌}
use Rattle.rules.specs.Plan.{Built}
use Rattle.rules.specs.Cells.{built_count, count_all, cells_all, number_first}
use Rattle.rules.specs.BuildExpression.{each}

pub each_append : {A B : Type 0} (f : A → Answer B) (xs ys : List A)
    → each f (xs ++ ys) ≡ each f xs >>= λ bs. each f ys >>= λ cs. ok (bs ++ cs)
unfolding each ◌>>=◌
each_append f [] ys = sym (bind-same (each f ys))
  where
    bind-same : {B : Type 0} (r : Answer (List B)) → (r >>= λ cs. ok cs) ≡ r
    bind-same (ok b) = refl
    bind-same (refused w) = refl
each_append f (x ∷ xs) ys = rw (each_append f xs ys) (go (f x) (each f xs) (each f ys))
  where
    go : {B : Type 0} (b : Answer B) (r t : Answer (List B))
        → (b >>= λ y. (r >>= λ bs. t >>= λ cs. ok (bs ++ cs)) >>= λ ys'. ok (y ∷ ys'))
        ≡ ((b >>= λ y. r >>= λ ys'. ok (y ∷ ys')) >>= λ bs. t >>= λ cs. ok (bs ++ cs))
    go (ok y) (ok bs) (ok cs) = refl
    go (ok y) (ok bs) (refused w) = refl
    go (ok y) (refused w) t = refl
    go (refused w) r t = refl

-- what is never refused
pub each_pure : {A B : Type 0} (f : A → B) (as' : List A) → each (λ a. ok (f a)) as' ≡ ok (map f as')
unfolding each ◌>>=◌
each_pure f [] = refl
each_pure f (a ∷ as') = rw (each_pure f as')

pub count-append : (xs ys : List Built) → count_all (xs ++ ys) ≡ count_all xs + count_all ys
unfolding count_all
count-append [] ys = omega arith
count-append (x ∷ xs) ys = omega (arith, count-append xs ys)

pub cells-append : (xs ys : List Built) (n : ℕ)
    → cells_all n (xs ++ ys) ≡ cells_all n xs ++ cells_all (n + count_all xs) ys
unfolding cells_all count_all
cells-append [] ys n = rw add-zero
cells-append (x ∷ xs) ys n = rw (cells-append xs ys (n + built_count x), add_assoc, append_assoc)

pub first-append : {B : Type 0} (xs ys : List (Built × B)) (n : ℕ)
    → number_first n (xs ++ ys) ≡ number_first n xs ++ number_first (n + count_all (map (λ x. x.0) xs)) ys
unfolding number_first count_all
first-append [] ys n = rw add-zero
first-append (x ∷ xs) ys n = rw (first-append xs ys (n + built_count x.0), add_assoc)
