-- A place that stands in a list of numbers, and one that may be missing.
use Rattle.std.specs.Prelude.{ℕ, zero, suc, ◌+◌, ◌≡◌, refl, List, [], ◌∷◌, get_or, Option, Some, None}
use Rattle.std.proofs.Common.{arith}
use Rattle.rules.specs.Lists.{Bytes}
use Rattle.rules.specs.Lines.{bytes}
use Rattle.rules.specs.Places.{bytes_at}
use Rattle.text.specs.Places.{place_of}
use Rattle.text.specs.declared.places.Place.{Place}
use Rattle.listing.specs.Nodes.{alias_fields, alias-some}
use Rattle.listing.specs.Own.{reference_fields, reference-some}

-- the address is the number at p, the length the one behind it
abbrev pub place_at : List ℕ → ℕ → Place
place_at s p = record { address = get_or s p 0; length = get_or s (p + 1) 0 }

-- none where that length is 0
abbrev pub optional_place_at : List ℕ → ℕ → Option Place
optional_place_at s p = place_of (get_or s p 0) (get_or s (p + 1) 0)

-- the fields of an alias, and of a reference, where there is one
unfoldable pub alias_of : Bytes → Bytes → Option Place → List Bytes
alias_of c q None = []
alias_of c q (Some p) = bytes "as" ∷ bytes_at c q p.address p.length ∷ []

unfoldable pub reference_of : Bytes → Bytes → Option Place → List Bytes
reference_of c q None = []
reference_of c q (Some p) = bytes_at c q p.address p.length ∷ []

-- as they are of two numbers
pub alias-numbers : (c q : Bytes) (a n : ℕ) → alias_of c q (place_of a n) ≡ alias_fields c q a n
unfolding alias_of place_of alias_fields
alias-numbers c q a zero = refl
alias-numbers c q a (suc n) = alias-some c q a (suc n) (λ h. omega arith)

pub reference-numbers : (c q : Bytes) (a n : ℕ) → reference_of c q (place_of a n) ≡ reference_fields c q a n
unfolding reference_of place_of reference_fields
reference-numbers c q a zero = refl
reference-numbers c q a (suc n) = reference-some c q a (suc n) (λ h. omega arith)
