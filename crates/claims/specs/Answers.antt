-- What holds of an accepted answer, along a do-block; and of every entry of a list.
use Rattle.std.specs.Prelude.{ℕ, suc, ◌≡◌, refl, List, [], ◌∷◌, ◌++◌, map, length}
use Rattle.std.proofs.Common.{arith, ap}
use Rattle.std.proofs.Math.Option.{Option, none, some}
use Rattle.rules.specs.Refusals.{Reason, Answer, ok, refused, ◌>>=◌, refuse}
use Rattle.rules.specs.BuildExpression.{each}

-- ANSWERS
abbrev pub Ensures : {A : Type 0} → Answer A → (A → Type 0) → Type 0
Ensures (ok a) Q = Q a
Ensures (refused r) Q = Unit {0}

pub then : {A B : Type 0} (m : Answer A) (f : A → Answer B) (P : A → Type 0) (Q : B → Type 0)
    → Ensures m P → ((a : A) → P a → Ensures (f a) Q) → Ensures (m >>= f) Q
unfolding ◌>>=◌
then (ok a) f P Q h k = k a h
then (refused r) f P Q h k = tt

pub refusing : {A : Type 0} (n : Reason) (l : ℕ) (Q : A → Type 0) → Ensures (refuse n l) Q
unfolding refuse
refusing n l Q = tt

pub ensures : {A : Type 0} (m : Answer A) (Q : A → Type 0) → ((a : A) → m ≡ ok a → Q a) → Ensures m Q
ensures (ok a) Q k = k a refl
ensures (refused r) Q k = tt

-- from an accepted answer to what holds of it
pub ensured : {A : Type 0} (m : Answer A) (Q : A → Type 0) → Ensures m Q → (a : A) → m ≡ ok a → Q a
ensured (ok b) Q h a e = let q : b ≡ a = cc in rw (← q) h
ensured (refused r) Q h a e = grind arith

-- nothing is asked
abbrev pub Any : {A : Type 0} → A → Type 0
Any a = Unit {0}

pub anything : {A : Type 0} (m : Answer A) → Ensures m Any
anything (ok a) = tt
anything (refused r) = tt

-- a step of whose value nothing is wanted
pub past : {A B : Type 0} (m : Answer A) (f : A → Answer B) (Q : B → Type 0) → ((a : A) → Ensures (f a) Q) → Ensures (m >>= f) Q
past m f Q k = then m f Any Q (anything m) λ a u. k a

pub both : {A : Type 0} (m : Answer A) (P Q : A → Type 0) → Ensures m P → Ensures m Q → Ensures m (λ a. P a × Q a)
both (ok a) P Q p q = (p, q)
both (refused r) P Q p q = tt

pub weaken : {A : Type 0} (m : Answer A) (P Q : A → Type 0) → ((a : A) → P a → Q a) → Ensures m P → Ensures m Q
weaken (ok a) P Q k h = k a h
weaken (refused r) P Q k h = tt

-- a step, and that it gives its value
pub known : {A B : Type 0} (m : Answer A) (f : A → Answer B) (Q : B → Type 0) → ((a : A) → m ≡ ok a → Ensures (f a) Q) → Ensures (m >>= f) Q
known m f Q k = then m f (λ a. m ≡ ok a) Q (ensures m (λ a. m ≡ ok a) (λ a e. e)) k

-- LISTS
unfoldable pub All : {B : Type 0} → (B → Type 0) → List B → Type 0
All Q [] = Unit {0}
All Q (b ∷ bs) = Q b × All Q bs

unfoldable pub Given : {B : Type 0} → (B → Type 0) → Option B → Type 0
Given Q none = Unit {0}
Given Q (some b) = Q b

pub all_append : {B : Type 0} (Q : B → Type 0) (xs ys : List B) → All Q xs → All Q ys → All Q (xs ++ ys)
unfolding All
all_append Q [] ys h g = g
all_append Q (x ∷ xs) ys h g = (h.0, all_append Q xs ys h.1 g)

pub all_left : {B : Type 0} (Q : B → Type 0) (xs ys : List B) → All Q (xs ++ ys) → All Q xs
unfolding All
all_left Q [] ys h = tt
all_left Q (x ∷ xs) ys h = (h.0, all_left Q xs ys h.1)

pub all_right : {B : Type 0} (Q : B → Type 0) (xs ys : List B) → All Q (xs ++ ys) → All Q ys
unfolding All
all_right Q [] ys h = h
all_right Q (x ∷ xs) ys h = all_right Q xs ys h.1

pub all-weaken : {B : Type 0} (P Q : B → Type 0) → ((b : B) → P b → Q b) → (xs : List B) → All P xs → All Q xs
unfolding All
all-weaken P Q k [] h = tt
all-weaken P Q k (x ∷ xs) h = (k x h.0, all-weaken P Q k xs h.1)

pub all_map : {A B : Type 0} (Q : B → Type 0) (f : A → B) (P : A → Type 0) → ((a : A) → P a → Q (f a)) → (xs : List A) → All P xs → All Q (map f xs)
unfolding All
all_map Q f P k [] h = tt
all_map Q f P k (x ∷ xs) h = (k x h.0, all_map Q f P k xs h.1)

pub all-every : {B : Type 0} (Q : B → Type 0) → ((b : B) → Q b) → (xs : List B) → All Q xs
unfolding All
all-every Q k [] = tt
all-every Q k (x ∷ xs) = (k x, all-every Q k xs)

-- what `each` gives of entries with P: as many, each with what the function promises
pub each_from : {A B : Type 0} (f : A → Answer B) (P : A → Type 0) (Q : B → Type 0) → ((a : A) → P a → Ensures (f a) Q)
    → (as' : List A) → All P as' → Ensures (each f as') (λ bs. All Q bs × (length bs ≡ length as'))
unfolding each All
each_from f P Q k [] h = (tt, refl)
each_from f P Q k (a ∷ as') h = then (f a) _ Q _ (k a h.0) λ b hb. then (each f as') _ _ _ (each_from f P Q k as' h.1) λ bs g. ((hb, g.0), ap suc g.1)

-- and of any entries
pub each-ensures : {A B : Type 0} (f : A → Answer B) (Q : B → Type 0) → ((a : A) → Ensures (f a) Q)
    → (as' : List A) → Ensures (each f as') (λ bs. All Q bs × (length bs ≡ length as'))
each-ensures f Q k as' = each_from f Any Q (λ a u. k a) as' (all-every Any (λ a. tt) as')

pub each-length : {A B : Type 0} (f : A → Answer B) (as' : List A) → Ensures (each f as') (λ bs. length bs ≡ length as')
each-length f as' = weaken (each f as') _ _ (λ bs h. h.1) (each-ensures f Any (λ a. anything (f a)) as')
