-- The size of a float, counted in the smallest steps of the format, 2 ^ -1074.
use Rattle.std.specs.Prelude.{ℕ, ◌*◌, ◌/◌, ◌^◌, ◌≡◌, Bool, false, not, T}
use Rattle.std.specs.Float.{Float}
use Rattle.std.specs.Float.Ieee as Ieee
use Rattle.std.specs.Float.Ieee.{nan, inf, fin}

-- how many steps x is; 0 for what is no number
unfoldable pub steps : Float → ℕ
steps nan = 0
steps (inf s) = 0
steps (fin s m e) = m * Ieee.up e * 2 ^ 1074 / Ieee.down e

-- x is finite, with a plus for its sign
unfoldable pub is_size : Float → Bool
is_size nan = false
is_size (inf s) = false
is_size (fin s m e) = not s

abbrev pub IsSize : Float → Type 0
IsSize x = T (is_size x)

-- n is m, doubled some times
abbrev pub IsDoubled : ℕ → ℕ → Type 0
IsDoubled m n = (k : ℕ) × (n ≡ m * 2 ^ k)
