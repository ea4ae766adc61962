-- What is made of a line's fields has a property, where the fields have one.
use mathlib.Core.List.{List, [], ◌∷◌}
use Rattle.std.proofs.Math.Option.{Option, none, some}
use Rattle.rules.specs.Lists.{Bytes, same, named}
use Rattle.rules.specs.Lines.{Word, Line}
use Rattle.rules.specs.Reader.{key_of, rest_of, apply, one_of, one_field, both, two_fields}
use Rattle.rules.specs.ReadColumn.{◌>>=◌}
use Rattle.claims.specs.Answers.{Any, All, Given}
use Rattle.claims.specs.Cases.{either_way}
use Rattle.claims.specs.Lists.{given-every}

-- OPTIONS
pub given_both : {A B : Type 0} (P : A → Type 0) (Q : B → Type 0) (a : Option A) (b : Option B) → Given P a → Given Q b → Given (λ r. P r.0 × Q r.1) (both a b)
unfolding Given both
given_both P Q none b h g = tt
given_both P Q (some a) none h g = tt
given_both P Q (some a) (some b) h g = (h, g)

-- one option after another
pub given-then : {A B : Type 0} (P : A → Type 0) (Q : B → Type 0) (m : Option A) (f : A → Option B) → Given P m → ((a : A) → P a → Given Q (f a)) → Given Q (m >>= f)
unfolding Given ◌>>=◌
given-then P Q none f h k = tt
given-then P Q (some a) f h k = k a h

-- the same, of any first one
pub given-past : {A B : Type 0} (Q : B → Type 0) (m : Option A) (f : A → Option B) → ((a : A) → Given Q (f a)) → Given Q (m >>= f)
given-past Q m f k = given-then Any Q m f (given-every Any (λ a. tt) m) λ a u. k a

-- an option that a test may end
pub given-kept : {A : Type 0} (Q : A → Type 0) (f : A → Option A) (o : Option A) → Given Q o → ((a : A) → Q a → Given Q (f a)) → Given Q (elim o [ none ↦ none | some a ↦ f a ])
unfolding Given
given-kept Q f none h k = tt
given-kept Q f (some a) h k = k a h

-- what a table of words has under a word
pub given-named : {A : Type 0} (Q : A → Type 0) (es : List (Bytes × A)) (k : Bytes) → All (λ e. Q e.1) es → Given Q (named es k)
unfolding named All Given
given-named Q [] k h = tt
given-named Q (e ∷ es) k h = either_way (Given Q) (same e.0 k) _ _ h.0 (given-named Q es k h.1)

-- FIELDS
module _ (F : Word → Type 0) where
  -- f makes values with Q of fields with F
  abbrev pub Makes : {A : Type 0} → (List Word → Option A) → (A → Type 0) → Type 0
  Makes f Q = (r : List Word) → All F r → Given Q (f r)

  pub makes_any : {A : Type 0} (f : List Word → Option A) → Makes f Any
  makes_any f r h = given-every Any (λ a. tt) (f r)

  pub makes_one : {A : Type 0} (f : Word → Option A) (Q : A → Type 0) → ((w : Word) → F w → Given Q (f w)) → Makes (one_field f) Q
  unfolding one_field All Given
  makes_one f Q k [] h = tt
  makes_one f Q k (w ∷ []) h = k w h.0
  makes_one f Q k (w ∷ (v ∷ r)) h = tt

  pub makes_two : {A B : Type 0} (f : Word → Option A) (g : Word → Option B) (Q : A → Type 0) (R : B → Type 0)
      → ((w : Word) → F w → Given Q (f w)) → ((w : Word) → F w → Given R (g w)) → Makes (two_fields f g) (λ r. Q r.0 × R r.1)
  unfolding two_fields All Given
  makes_two f g Q R k m [] h = tt
  makes_two f g Q R k m (w ∷ []) h = tt
  makes_two f g Q R k m (w ∷ (v ∷ [])) h = given_both Q R (f w) (g v) (k w h.0) (m v h.1.0)
  makes_two f g Q R k m (w ∷ (v ∷ (u ∷ r))) h = tt

  -- the fields behind the first
  pub field-rest : (l : Line) → All F l → All F (rest_of l)
  unfolding All rest_of
  field-rest [] h = tt
  field-rest (w ∷ r) h = h.1

  -- by a table of keywords
  pub makes-one_of : {A : Type 0} (Q : A → Type 0) (es : List (Bytes × (List Word → Option A))) → All (λ e. Makes e.1 Q) es → Makes (one_of es) Q
  unfolding one_of apply Given
  makes-one_of {A} Q es k l h = go (named es (key_of l)) (given-named (λ f. Makes f Q) es (key_of l) k)
    where
      go : (o : Option (List Word → Option A)) → Given (λ f. Makes f Q) o → Given Q (apply o (rest_of l))
      go none g = tt
      go (some f) g = g (rest_of l) (field-rest l h)
