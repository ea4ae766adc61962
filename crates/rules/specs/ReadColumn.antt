-- The fields of a column's record, in the catalog and in CREATE.
use Rattle.std.specs.Prelude.{Bool, true, false, List, [], ◌∷◌}
use Rattle.std.proofs.Math.Option.{Option, none, some}
use Rattle.rules.specs.Lists.{Bytes}
use Rattle.rules.specs.Lines.{Word, bytes}
use Rattle.rules.specs.Schema.{Datatype, boolean, integer, floating, string}
use Rattle.rules.specs.Reader.{name, word, optional_name}

-- the first field that does not fit makes the record wrong
infixl 10 ◌>>=◌
unfoldable pub ◌>>=◌ : {A B : Type 0} → Option A → (A → Option B) → Option B
◌>>=◌ none f = none
◌>>=◌ (some a) f = f a

unfoldable pub datatypes : List (Bytes × Datatype)
datatypes = (bytes "bool", boolean) ∷ (bytes "int", integer) ∷ (bytes "float", floating) ∷ (bytes "text", string) ∷ []

-- THE CATALOG
unfoldable pub nullables : List (Bytes × Bool)
nullables = (bytes "null", true) ∷ (bytes "notnull", false) ∷ []

-- name, type, `null` or `notnull`
unfoldable pub column_fields : List Word → Option (Word × Datatype × Bool)
column_fields [] = none
column_fields (n ∷ []) = none
column_fields (n ∷ (t ∷ [])) = none
column_fields (n ∷ (t ∷ (u ∷ []))) = do
  name' ← name n
  type' ← word datatypes t
  nullable' ← word nullables u
  some (name', type', nullable')
column_fields (n ∷ (t ∷ (u ∷ (v ∷ r)))) = none

-- CREATE
-- a field that is given, by its word, or `-`
unfoldable pub flagged : Bytes → Word → Option Bool
flagged k = word ((k, true) ∷ (bytes "-", false) ∷ [])

unfoldable pub nullness : List (Bytes × Option Bool)
nullness = (bytes "null", some true) ∷ (bytes "notnull", some false) ∷ (bytes "-", none) ∷ []

-- `default` says whether an expression follows
pub record ColumnHead : Type 0 where
  pub name : Word
  pub type : Datatype
  pub key : Bool
  pub nullable : Option Bool
  pub unique : Bool
  pub index : Bool
  pub default : Bool
  pub reference : Option Word

-- name, type, then pk, null or notnull, unique, index, default, each given or `-`; a ninth field is the reference
unfoldable pub new_column_fields : List Word → Option ColumnHead
new_column_fields [] = none
new_column_fields (n ∷ []) = none
new_column_fields (n ∷ (t ∷ [])) = none
new_column_fields (n ∷ (t ∷ (k ∷ []))) = none
new_column_fields (n ∷ (t ∷ (k ∷ (u ∷ [])))) = none
new_column_fields (n ∷ (t ∷ (k ∷ (u ∷ (q ∷ []))))) = none
new_column_fields (n ∷ (t ∷ (k ∷ (u ∷ (q ∷ (i ∷ [])))))) = none
new_column_fields (n ∷ (t ∷ (k ∷ (u ∷ (q ∷ (i ∷ (d ∷ r))))))) = do
  name' ← name n
  type' ← word datatypes t
  key' ← flagged (bytes "pk") k
  nullable' ← word nullness u
  unique' ← flagged (bytes "unique") q
  index' ← flagged (bytes "index") i
  default' ← flagged (bytes "default") d
  reference' ← optional_name r
  some (record {
    name = name';
    type = type';
    key = key';
    nullable = nullable';
    unique = unique';
    index = index';
    default = default';
    reference = reference';
  })
