-- Readings of a list of numbers, one after the other.
use Rattle.std.specs.Prelude.{ℕ, zero, suc, ◌+◌, Bool, true, false, List, [], ◌∷◌, eqb, length}
use Rattle.std.proofs.Math.Option.{Option, none, some}

-- from numbers to a value and the numbers left, if they are laid out so
abbrev pub Reading : Type 0 → Type 0
Reading A = List ℕ → Option (A × List ℕ)

-- a value, and no number read
unfoldable pub give : {A : Type 0} → A → Reading A
give a s = some (a, s)

-- one reading after another
infixl 10 ◌>>=◌
unfoldable pub ◌>>=◌ : {A B : Type 0} → Reading A → (A → Reading B) → Reading B
◌>>=◌ m f s = elim (m s) [ none ↦ none | some r ↦ f r.0 r.1 ]

infixl 10 ◌>>◌
abbrev pub ◌>>◌ : {A B : Type 0} → Reading A → Reading B → Reading B
◌>>◌ m n = m >>= λ a. n

-- what a function makes of what is read
unfoldable pub giving : {A B : Type 0} → (A → B) → Reading A → Reading B
giving f m = m >>= λ a. give (f a)

-- the value of an option
unfoldable pub found : {A : Type 0} → Option A → Reading A
found none s = none
found (some a) s = some (a, s)

-- nothing, where a test passes
unfoldable pub demand : Bool → Reading (Unit {0})
demand true s = some (tt, s)
demand false s = none

-- one number
unfoldable pub number : Reading ℕ
number [] = none
number (n ∷ s) = some (n, s)

-- the number n
unfoldable pub exactly : ℕ → Reading (Unit {0})
exactly n = do
  m ← number
  demand (eqb m n)

-- nothing, at position n of the numbers a
unfoldable pub position : List ℕ → ℕ → Reading (Unit {0})
position a n s = demand (eqb (n + length s) (length a)) s

-- n of a kind
unfoldable pub times : {A : Type 0} → ℕ → Reading A → Reading (List A)
times zero m = give []
times (suc n) m = do
  a ← m
  as' ← times n m
  give (a ∷ as')

-- an empty list where the numbers end
unfoldable pub until_end : {A : Type 0} → Reading (List A) → Reading (List A)
until_end m [] = some ([], [])
until_end m (x ∷ s) = m (x ∷ s)

-- all that there are of a kind, at most n
unfoldable pub up_to : {A : Type 0} → ℕ → Reading A → Reading (List A)
up_to zero m = until_end (λ s. none)
up_to (suc n) m = until_end (m >>= λ a. up_to n m >>= λ as'. give (a ∷ as'))

-- all that there are of a kind
unfoldable pub all : {A : Type 0} → Reading A → Reading (List A)
all m s = up_to (length s) m s

-- a reading, and n zeros behind it
unfoldable pub padded : {A : Type 0} → ℕ → Reading A → Reading A
padded n m = do
  a ← m
  times n (exactly 0)
  give a

-- what a reading gives that leaves no number
unfoldable pub whole : {A : Type 0} → Reading A → List ℕ → Option A
whole m s = elim (m s) [ none ↦ none | some r ↦ elim r.1 [ [] ↦ some r.0 | ◌∷◌ x t ↦ none ] ]

-- CODES
-- what a table has under a number: the first
unfoldable pub decoded : {A : Type 0} → List (ℕ × A) → ℕ → Option A
decoded [] k = none
decoded (e ∷ es) k = elim (eqb e.0 k) [ true ↦ some e.1 | false ↦ decoded es k ]

unfoldable pub code_here : {A : Type 0} → List (ℕ × A) → Reading A
code_here es = do
  k ← number
  found (decoded es k)

-- a kind, and what its reading makes of the numbers behind
unfoldable pub kind_here : {A : Type 0} → List (ℕ × Reading A) → Reading A
kind_here es = code_here es >>= λ m. m
