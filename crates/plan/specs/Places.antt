-- A place as numbers of the plan: its address and its length.
use Rattle.std.specs.Prelude.{ℕ, List, [], ◌∷◌}
use Rattle.text.specs.declared.places.Place.{Place}

abbrev pub place_numbers : Place → List ℕ
place_numbers p = p.address ∷ p.length ∷ []
