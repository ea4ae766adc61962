-- Places in both texts, by address and length.
use Rattle.std.specs.Prelude.{ℕ, zero, suc, ◌-◌, ◌≤◌, ◌<◌, ◌≡◌, List, [], ◌∷◌, length, take, drop, Option, Some, None}
use Rattle.std.proofs.Common.{arith, length-take}
use Rattle.std.proofs.Math.Decide.{dec_lt}
use borrow.Author.Tests.{lt-ltb, le-ltb}
use Rattle.rules.specs.Limits.{most_bytes}
use Rattle.rules.specs.Lists.{Bytes}
use Rattle.rules.specs.Places.{bytes_at}
use Rattle.text.specs.declared.places.Place.{Place}

-- A PLACE THAT MAY BE MISSING
-- as numbers: its address and its length, or zeros
abbrev pub option_numbers : Option Place → List ℕ
option_numbers None = 0 ∷ 0 ∷ []
option_numbers (Some p) = p.address ∷ p.length ∷ []

-- and back
unfoldable pub place_of : ℕ → ℕ → Option Place
place_of a zero = None
place_of a (suc n) = Some (record { address = a; length = suc n })

-- as many bytes of it as there are
unfoldable pub clipped_place : Bytes → Bytes → Option Place → Option Place
clipped_place c q None = None
clipped_place c q (Some p) = Some (record { address = p.address; length = length (bytes_at c q p.address p.length) })

-- BYTES

module _ (c q : Bytes) (a n : ℕ) where
  pub bytes-catalog : a < most_bytes → bytes_at c q a n ≡ take n (drop a c)
  unfolding bytes_at
  bytes-catalog h = rw (bytes_at, lt-ltb a most_bytes h)

  pub bytes-statement : most_bytes ≤ a → bytes_at c q a n ≡ take n (drop (a - most_bytes) q)
  unfolding bytes_at
  bytes-statement h = rw (bytes_at, le-ltb a most_bytes h)

  pub bytes-most : length (bytes_at c q a n) ≤ n
  bytes-most = elim (dec_lt a most_bytes) [
    | yes y ↦ rw (bytes-catalog (omega (arith, y))) (omega (arith, length-take n (drop a c)))
    | no y ↦ rw (bytes-statement (omega (arith, y))) (omega (arith, length-take n (drop (a - most_bytes) q)))
  ]
