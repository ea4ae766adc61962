-- Small functions on lists and options that the rules share.
use Rattle.std.specs.Prelude.{ℕ, zero, suc, Bool, true, false, List, [], ◌∷◌, ◌++◌, eqb, ltb}
use Rattle.std.proofs.Math.Option.{Option, none, some}

abbrev pub Bytes : Type 0
Bytes = List ℕ

-- names are compared by bytes
unfoldable pub same : Bytes → Bytes → Bool
same [] [] = true
same [] (y ∷ ys) = false
same (x ∷ xs) [] = false
same (x ∷ xs) (y ∷ ys) = elim (eqb x y) [ true ↦ same xs ys | false ↦ false ]

-- the order of names and texts, by bytes, a proper prefix first
unfoldable pub before : Bytes → Bytes → Bool
before [] [] = false
before [] (y ∷ ys) = true
before (x ∷ xs) [] = false
before (x ∷ xs) (y ∷ ys) = elim (ltb x y) [
  | true ↦ true
  | false ↦ elim (eqb x y) [ true ↦ before xs ys | false ↦ false ]
]

-- what a table of words has under a word: the first
unfoldable pub named : {A : Type 0} → List (Bytes × A) → Bytes → Option A
named [] k = none
named (e ∷ es) k = elim (same e.0 k) [ true ↦ some e.1 | false ↦ named es k ]

unfoldable pub any : {A : Type 0} → (A → Bool) → List A → Bool
any t [] = false
any t (a ∷ as') = elim (t a) [ true ↦ true | false ↦ any t as' ]

-- the positions, from i, at which a test passes
unfoldable pub positions : {A : Type 0} → (A → Bool) → ℕ → List A → List ℕ
positions t i [] = []
positions t i (a ∷ as') = elim (t a) [ true ↦ i ∷ positions t (suc i) as' | false ↦ positions t (suc i) as' ]

-- the entry behind the first n, if there is one
unfoldable pub entry_after : {A : Type 0} → ℕ → List A → Option A
entry_after n [] = none
entry_after zero (a ∷ as') = some a
entry_after (suc n) (a ∷ as') = entry_after n as'

unfoldable pub concat : {A : Type 0} → List (List A) → List A
concat [] = []
concat (r ∷ rs) = r ++ concat rs

unfoldable pub is_empty : {A : Type 0} → List A → Bool
is_empty [] = true
is_empty (a ∷ as') = false

unfoldable pub is_some : {A : Type 0} → Option A → Bool
is_some none = false
is_some (some a) = true

unfoldable pub map_option : {A B : Type 0} → (A → B) → Option A → Option B
map_option f none = none
map_option f (some a) = some (f a)

unfoldable pub or_else : {A : Type 0} → Option A → A → A
or_else none b = b
or_else (some a) b = a

-- the option as a list
unfoldable pub given : {A : Type 0} → Option A → List A
given none = []
given (some a) = a ∷ []
