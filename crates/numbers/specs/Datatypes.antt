-- The datatypes of the code as the rules', and by their numbers.
use Rattle.std.specs.Prelude.{ℕ, ◌≡◌, [], ◌∷◌}
use Rattle.rules.specs.Schema.{Datatype, boolean, integer, floating, string}
use Rattle.numbers.specs.Codes.{coded, coded-map}
use Rattle.numbers.specs.Values.{type_at}
use Rattle.numbers.specs.declared.datatypes.DataType.{DataType}
use Rattle.numbers.specs.declared.datatypes.DataType.TheVariants as D

unfoldable pub type_of : DataType → Datatype
type_of D.Boolean = boolean
type_of D.Integer = integer
type_of D.Float = floating
type_of D.String = string

-- a string's where the number is none's
unfoldable pub datatype_at : ℕ → DataType
datatype_at k = coded D.String (D.Boolean ∷ D.Integer ∷ D.Float ∷ D.String ∷ []) 1 k

pub datatype-type : (k : ℕ) → type_of (datatype_at k) ≡ type_at k
unfolding type_of datatype_at type_at
datatype-type k = coded-map type_of D.String _ 1 k
