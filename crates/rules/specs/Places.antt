-- Places in the two texts: an address and a length (docs/PLAN.md). The catalog's bytes have the addresses from 0 on,
-- the statement's those from 65,536 on.
use Rattle.std.specs.Prelude.{ℕ, ◌-◌, true, false, ltb, take, drop}
use Rattle.rules.specs.Limits.{most_bytes}
use Rattle.rules.specs.Lists.{Bytes}
use Rattle.rules.specs.Lines.{Word}

-- n bytes at an address of the catalog c or the statement q
unfoldable pub bytes_at : Bytes → Bytes → ℕ → ℕ → Bytes
bytes_at c q a n = elim (ltb a most_bytes) [ true ↦ take n (drop a c) | false ↦ take n (drop (a - most_bytes) q) ]

-- the word that they are
unfoldable pub word_at : Bytes → Bytes → ℕ → ℕ → Word
word_at c q a n = record { bytes = bytes_at c q a n; start = a }
