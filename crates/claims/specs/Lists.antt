-- More laws of what holds of every entry of a list and of what an option gives.
use Rattle.std.specs.Prelude.{ℕ, zero, suc, ◌<◌, ◌≡◌, List, [], ◌∷◌, map, length}
use Rattle.std.proofs.Common.{arith}
use Rattle.std.proofs.Math.Option.{Option, none, some}
use Rattle.rules.specs.Lists.{map_option, given, concat, entry_after}
use Rattle.claims.specs.Answers.{Any, All, Given, all_append, all_left, all_right, all-every, all_map}

pub all_none : {B : Type 0} (Q : B → Type 0) → All Q []
unfolding All
all_none Q = tt

pub all_one : {B : Type 0} (Q : B → Type 0) (b : B) → Q b → All Q (b ∷ [])
unfolding All
all_one Q b h = (h, tt)

-- two properties at once
pub all_both : {B : Type 0} (P Q : B → Type 0) (xs : List B) → All P xs → All Q xs → All (λ b. P b × Q b) xs
unfolding All
all_both P Q [] h g = tt
all_both P Q (x ∷ xs) h g = ((h.0, g.0), all_both P Q xs h.1 g.1)

-- of every list, and so of all of them as one
pub all-concat : {B : Type 0} (Q : B → Type 0) (rs : List (List B)) → All (All Q) rs → All Q (concat rs)
unfolding concat All
all-concat Q [] h = tt
all-concat Q (r ∷ rs) h = all_append Q r (concat rs) h.0 (all-concat Q rs h.1)

-- an option as a list
pub given-all : {B : Type 0} (Q : B → Type 0) (o : Option B) → Given Q o → All Q (given o)
unfolding given Given All
given-all Q none h = tt
given-all Q (some x) h = (h, tt)

pub all-given : {B : Type 0} (Q : B → Type 0) (o : Option B) → All Q (given o) → Given Q o
unfolding given Given All
all-given Q none h = tt
all-given Q (some x) h = h.0

-- the position of an entry is below the length
pub entry-below : {A : Type 0} (as' : List A) (i : ℕ) (a : A) → entry_after i as' ≡ some a → i < length as'
unfolding entry_after
entry-below [] i a e = grind arith
entry-below (x ∷ xs) zero a e = omega arith
entry-below (x ∷ xs) (suc i) a e = omega (arith, entry-below xs i a e)

-- what all entries have, one at a position has
pub all-entry : {A : Type 0} (Q : A → Type 0) (as' : List A) → All Q as' → (i : ℕ) (a : A) → entry_after i as' ≡ some a
    → Q a
unfolding entry_after All
all-entry Q [] h i a e = grind arith
all-entry Q (x ∷ xs) h zero a e = let q : x ≡ a = cc in rw (← q) h.0
all-entry Q (x ∷ xs) h (suc i) a e = all-entry Q xs h.1 i a e

-- of what a function makes of any entry
pub all-mapped : {A B : Type 0} (Q : B → Type 0) (f : A → B) → ((a : A) → Q (f a)) → (xs : List A) → All Q (map f xs)
all-mapped Q f k xs = all_map Q f Any (λ a u. k a) xs (all-every Any (λ a. tt) xs)

-- of what a function makes of each entry
pub map-all : {A B : Type 0} (Q : B → Type 0) (f : A → B) (xs : List A) → All Q (map f xs) → All (λ x. Q (f x)) xs
unfolding All
map-all Q f [] h = tt
map-all Q f (x ∷ xs) h = (h.0, map-all Q f xs h.1)

-- of all lists as one, and so of every list
pub concat-all : {B : Type 0} (Q : B → Type 0) (rs : List (List B)) → All Q (concat rs) → All (All Q) rs
unfolding concat All
concat-all Q [] h = tt
concat-all Q (r ∷ rs) h = (all_left Q r (concat rs) h, concat-all Q rs (all_right Q r (concat rs) h))

-- OPTIONS
pub given-some : {A : Type 0} (Q : A → Type 0) (o : Option A) → Given Q o → (a : A) → o ≡ some a → Q a
unfolding Given
given-some Q none h a e = grind arith
given-some Q (some b) h a e = let q : b ≡ a = cc in rw (← q) h

pub given-every : {A : Type 0} (Q : A → Type 0) → ((a : A) → Q a) → (o : Option A) → Given Q o
unfolding Given
given-every Q k none = tt
given-every Q k (some a) = k a

pub given-weaken : {A : Type 0} (P Q : A → Type 0) → ((a : A) → P a → Q a) → (o : Option A) → Given P o → Given Q o
unfolding Given
given-weaken P Q k none h = tt
given-weaken P Q k (some a) h = k a h

pub given-map : {A B : Type 0} (f : A → B) (P : A → Type 0) (Q : B → Type 0) → ((a : A) → P a → Q (f a)) → (o : Option A) → Given P o → Given Q (map_option f o)
unfolding Given map_option
given-map f P Q k none h = tt
given-map f P Q k (some a) h = k a h

-- the same, of any option
pub given-mapped : {A B : Type 0} (f : A → B) (Q : B → Type 0) → ((a : A) → Q (f a)) → (o : Option A) → Given Q (map_option f o)
given-mapped f Q k o = given-map f Any Q (λ a u. k a) o (given-every Any (λ a. tt) o)
