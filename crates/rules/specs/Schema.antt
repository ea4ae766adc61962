-- Values and the catalog's tables (value.rs, Value and DataType; schema.rs; engine.rs, Catalog).
use Rattle.std.specs.Prelude.{ℕ, zero, suc, Bool, true, false, List, [], ◌∷◌, ℤ}
use Rattle.std.proofs.Math.Option.{Option, none, some}
use Rattle.rules.specs.Refusals.{Answer, ok, refuse, unknown_table}
use Rattle.rules.specs.Lists.{Bytes, same}
use Rattle.rules.specs.Lines.{Word}

-- a float by its 64 bits
pub data Value : Type 0 where
  null : Value
  bool : Bool → Value
  int : ℤ → Value
  float : ℕ → Value
  text : Word → Value

pub data Datatype : Type 0 where
  boolean integer floating string : Datatype

-- the Rust's other fields are unset
pub record Column : Type 0 where
  pub name : Word
  pub type : Datatype
  pub nullable : Bool
  pub default : Option Value

pub record Table : Type 0 where
  pub name : Word
  pub key : ℕ
  pub columns : List Column

abbrev pub Catalog : Type 0
Catalog = List Table

-- get_table
unfoldable pub get_table : Catalog → Bytes → Option Table
get_table [] n = none
get_table (t ∷ ts) n = elim (same t.name.bytes n) [ true ↦ some t | false ↦ get_table ts n ]

-- the same table under a name of the same bytes: a plan names its tables where the statement does
unfoldable pub named_by : Word → Table → Table
named_by n t = record { name = n; key = t.key; columns = t.columns }

-- must_get_table, for a name in the record at line l
unfoldable pub must_get_table : Catalog → ℕ → Word → Answer Table
must_get_table c l n = elim (get_table c n.bytes) [ some t ↦ ok (named_by n t) | none ↦ refuse unknown_table l ]

-- the first column of a name, from position i
unfoldable pub column_at : ℕ → List Column → Bytes → Option ℕ
column_at i [] n = none
column_at i (c ∷ cs) n = elim (same c.name.bytes n) [ true ↦ some i | false ↦ column_at (suc i) cs n ]

-- the default of the column at a position
unfoldable pub default_at : List Column → ℕ → Option Value
default_at [] i = none
default_at (c ∷ cs) zero = c.default
default_at (c ∷ cs) (suc i) = default_at cs i
