-- What the numbers of a row say of a record: the contracts of reading one record.
use Rattle.std.specs.Prelude.{ℕ, ◌+◌, ◌≤◌, ◌≡◌, List, [], ◌∷◌, Some, None}
use Rattle.std.specs.Prelude as std
use Rattle.std.proofs.Math.Option.{Option, none, some}
use Rattle.rules.specs.Limits.{most_cells}
use Rattle.rules.specs.Lists.{Bytes}
use Rattle.rules.specs.ReadExpression.{Head}
use Rattle.ast.specs.Row.{number_of}
use Rattle.ast.specs.declared.row.Kind.{Kind}
use Rattle.read_expression.specs.declared.heads.Row.{Row}
use Rattle.read_expression.specs.Encode.{head_numbers, arity}
use Rattle.read_expression.specs.Fits.{HeadFits}

abbrev pub numbers_of : Row → List ℕ
numbers_of r = number_of r.kind ∷ r.code ∷ r.a ∷ r.b ∷ r.c ∷ r.d ∷ []

-- a row with no place and no literal
abbrev pub Plain : Row → Kind → ℕ → ℕ → Type 0
Plain r kind code n = r ≡ record { code = code; a = 0; b = 0; c = 0; d = 0; operands = n; kind = kind }

-- the row of a record of the statement t
pub record RowIs (t : Bytes) (h : Head) (r : Row) : Type 0 where
  pub is : head_numbers h ≡ numbers_of r
  pub many : r.operands ≡ arity h
  pub small : r.operands ≤ most_cells + 1
  pub fits : (c : Bytes) → HeadFits c t h

-- a record that fits has a row, and no other
unfoldable pub RowSays : (t : Bytes) → Option Head → std.Option Row → Type 0
RowSays t none None = Unit {0}
RowSays t none (Some r) = ⊥
RowSays t (some h) None = ⊥
RowSays t (some h) (Some r) = RowIs t h r

pub record RowOf (t : Bytes) (h : Option Head) (r : std.Option Row) : Type 0 where
  pub says : RowSays t h r

pub row-of-as : (t : Bytes) (g h : Option Head) (r : std.Option Row) → g ≡ h → RowOf t h r → RowOf t g r
row-of-as t g h r e s = rw e s

pub no_row : {t : Bytes} {h : Option Head} → h ≡ none → RowOf t h None
unfolding RowSays
no_row e = record { says = rw e tt }
