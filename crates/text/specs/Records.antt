-- The rules of a record's fields, where there are too many or too few.
use Rattle.std.specs.Prelude.{suc, ◌≡◌, refl, List, [], ◌∷◌, length}
use Rattle.std.proofs.Common.{ap}
use Rattle.std.proofs.Math.Option.{Option, none, some}
use Rattle.rules.specs.Lines.{Word}
use Rattle.rules.specs.Reader.{no_field, one_field, two_fields, both, name, optional_name, name_alias}

pub no-field : (r : List Word) → (length r ≡ 0 → ⊥) → no_field r ≡ none
unfolding no_field
no-field [] h = absurd (h refl)
no-field (w ∷ r) h = refl

pub one_field_lem : {A : Type 0} (f : Word → Option A) (r : List Word) → (length r ≡ 1 → ⊥) → one_field f r ≡ none
unfolding one_field
one_field_lem f [] h = refl
one_field_lem f (w ∷ []) h = absurd (h refl)
one_field_lem f (w ∷ (v ∷ r)) h = refl

pub two_fields_lem : {A B : Type 0} (f : Word → Option A) (g : Word → Option B) (r : List Word) → (length r ≡ 2 → ⊥) → two_fields f g r ≡ none
unfolding two_fields
two_fields_lem f g [] h = refl
two_fields_lem f g (w ∷ []) h = refl
two_fields_lem f g (w ∷ (v ∷ [])) h = absurd (h refl)
two_fields_lem f g (w ∷ (v ∷ (u ∷ r))) h = refl

pub optional-name : (r : List Word) → (length r ≡ 0 → ⊥) → (length r ≡ 1 → ⊥) → optional_name r ≡ none
unfolding optional_name
optional-name [] h g = absurd (h refl)
optional-name (w ∷ []) h g = absurd (g refl)
optional-name (w ∷ (v ∷ r)) h g = refl

pub name-alias : (r : List Word) → (length r ≡ 1 → ⊥) → (length r ≡ 2 → ⊥) → name_alias r ≡ none
unfolding name_alias both
name-alias [] h g = refl
name-alias (w ∷ r) h g = rw (optional-name r (λ e. h (ap suc e)) (λ e. g (ap suc e))) (neither (name w))
  where
    neither : (o : Option Word) → both {A = Word} {B = Option Word} o none ≡ none
    neither none = refl
    neither (some a) = refl
