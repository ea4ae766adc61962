-- A column by the name and the qualifier that were read from its row.
use mathlib.Core.Path.{◌≡◌}
use mathlib.Core.List.{List}
use mathlib.Core.Option.{some}
use Prim.Native.Nat.{ℕ}
use Rattle.rules.specs.Lists.{Bytes}
use Rattle.rules.specs.Places.{word_at}
use Rattle.ast.specs.Row.{qualifier_address, qualifier_length, row_qualifier}

pub qualified : (c q : Bytes) (t : List ℕ) (r a b : ℕ) → a ≡ qualifier_address t r → b ≡ qualifier_length t r
    → some (word_at c q a b) ≡ some (row_qualifier c q t r)
qualified c q t r a b ha hb = λ i. some (word_at c q (ha i) (hb i))
