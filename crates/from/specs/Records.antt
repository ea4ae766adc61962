-- What a FROM record says as it was read: the contract of reading one.
use Rattle.std.specs.Prelude.{ℕ, ◌≡◌, Bool, List, [], ◌∷◌, get_or, Some, None}
use Rattle.std.specs.Prelude as std
use Rattle.std.proofs.Math.Option.{Option, none, some}
use Rattle.rules.specs.Lists.{Bytes, map_option}
use Rattle.rules.specs.Lines.{Word}
use Rattle.rules.specs.Ast.{Join, cross, inner, left, right}
use Rattle.rules.specs.Reader.{word, two_fields, name_alias}
use Rattle.rules.specs.ReadStatement.{FromHead, table_head, join_head, joins, predicates}
use Rattle.rules.specs.Area.{span, option_span}
use Rattle.text.specs.Places.{option_numbers}
use Rattle.text.specs.declared.places.Place.{Place}
use Rattle.numbers.specs.Values.{WordFits}
use Rattle.ast.specs.Names.{NameFits}
use Rattle.from.specs.Numbers.{number_of}
use Rattle.from.specs.declared.record.FromRecord.{FromRecord}
use Rattle.from.specs.declared.record.Said.{Said}
use Rattle.from.specs.declared.record.Said.TheVariants as S

-- the kind of a join's row
unfoldable pub join_number : Join → ℕ
join_number cross = 2
join_number inner = 3
join_number left = 4
join_number right = 5

-- what the fields of `from` and of `join` say
unfoldable pub table_fields : List Word → Option FromHead
table_fields r = map_option (λ (q : Word × Option Word). table_head q.0 q.1) (name_alias r)

unfoldable pub join_fields : List Word → Option FromHead
join_fields r = map_option (λ (q : Join × Bool). join_head q.0 q.1) (two_fields (word joins) (word predicates) r)

-- an alias as two numbers
abbrev pub alias_first : std.Option Place → ℕ
alias_first a = get_or (option_numbers a) 0 0

abbrev pub alias_second : std.Option Place → ℕ
alias_second a = get_or (option_numbers a) 1 0

-- a head as it was read
unfoldable pub Says : FromHead → Said → Type 0
Says (table_head n a) (S.Table p o) = (span n ≡ p.address ∷ p.length ∷ []) × (option_span a ≡ option_numbers o)
Says (table_head n a) (S.Join k b) = ⊥
Says (join_head j o) (S.Table p a) = ⊥
Says (join_head j o) (S.Join k b) = (number_of k ≡ join_number j) × (b ≡ o)

-- its names are the words at their places, of the catalog c and the statement q
unfoldable pub FromFits : Bytes → Bytes → FromHead → Type 0
FromFits c q (table_head n a) = WordFits c q n × NameFits c q a
FromFits c q (join_head j o) = Unit {0}

-- a record of the statement t, behind which position e lies
pub record FromRow (t : Bytes) (e : ℕ) (h : FromHead) (r : FromRecord) : Type 0 where
  pub is : Says h r.said
  pub fits : (c : Bytes) → FromFits c t h
  pub next : r.next ≡ e

-- a record that fits is read, and no other
unfoldable pub RowSays : (t : Bytes) (e : ℕ) → Option FromHead → std.Option FromRecord → Type 0
RowSays t e none None = Unit {0}
RowSays t e none (Some r) = ⊥
RowSays t e (some h) None = ⊥
RowSays t e (some h) (Some r) = FromRow t e h r

pub record IsFromRow (t : Bytes) (e : ℕ) (h : Option FromHead) (r : std.Option FromRecord) : Type 0 where
  pub says : RowSays t e h r
