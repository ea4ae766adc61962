-- The parts of a statement but FROM, all of one shape. A section is the records of one kind that stand in a row: items, groups,
-- names, rows, and also a clause, which is one record at most. An entry is one such record: its line, what its fields say, and
-- the expressions behind it.
use Rattle.std.specs.Prelude.{ℕ, zero, suc, ◌≡◌, Bool, true, false, List, [], ◌∷◌, eqb, length, get_or}
use Rattle.std.proofs.Common.{sym}
use Rattle.std.proofs.Math.Option.{Option, none, some}
use Rattle.std.proofs.Math.ListN.{get_or-map}
use Rattle.rules.specs.Refusals.{ok}
use Rattle.rules.specs.Limits.{most_entries, most_rows, most_table_columns}
use Rattle.rules.specs.Lists.{Bytes, map_option}
use Rattle.rules.specs.Lines.{Word, bytes}
use Rattle.rules.specs.Ast.{Exprs}
use Rattle.rules.specs.Reader.{Read, give, ◌>>=◌, at, name, word, count_field, no_field, one_field, optional_name, record_within, at_least_one}
use Rattle.rules.specs.ReadExpression.{times, expression}
use Rattle.rules.specs.ReadColumn.{ColumnHead, new_column_fields}
use Rattle.rules.specs.ReadStatement.{directions, rising_set}
use Rattle.rules.specs.Area.{flag, type_code}

-- What the fields of an entry's record say: a name (alias, inserted name, column), a reference, and numbers; and how many
-- expressions follow it. What its kind does not have is none or 0.
pub record EntryHead : Type 0 where
  pub name : Option Word
  pub reference : Option Word
  pub code : ℕ
  pub key : ℕ
  pub nullable : ℕ
  pub unique : ℕ
  pub index : ℕ
  pub expressions : ℕ

pub record Entry : Type 0 where
  pub line : ℕ
  pub head : EntryHead
  pub exprs : Exprs

-- KINDS OF SECTIONS
-- 0 item, 1 where, 2 group, 3 having, 4 order, 5 offset, 6 limit; 7 columns, 8 name, 9 row; 10 set; 11 column
unfoldable pub keyword_of : ℕ → Bytes
keyword_of k =
    get_or
    (bytes "item" ∷ bytes "where" ∷ bytes "group" ∷ bytes "having" ∷ bytes "order" ∷ bytes "offset" ∷ bytes "limit" ∷ bytes "columns" ∷ bytes "name" ∷ bytes "row" ∷ bytes "set" ∷ bytes "column" ∷ [])
    k
    []

-- the most entries a section has
abbrev most : List ℕ
most = most_entries ∷ 1 ∷ most_entries ∷ 1 ∷ most_entries ∷ 1 ∷ 1 ∷ 1 ∷ most_entries ∷ most_rows ∷ most_entries ∷ most_table_columns ∷ []

unfoldable pub most_of : ℕ → ℕ
most_of k = get_or most k 0

-- a clause, and `columns`: the next record of that kind does not belong to it
unfoldable pub is_once : ℕ → Bool
is_once k = get_or (false ∷ true ∷ false ∷ true ∷ false ∷ true ∷ true ∷ true ∷ false ∷ false ∷ false ∷ false ∷ []) k false

-- which are the sections of one entry at most
pub once-one : (k : ℕ) → eqb (most_of k) 1 ≡ is_once k
unfolding most_of is_once
once-one k = sym (get_or-map (λ n. eqb n 1) most k 0)

-- HEADS
-- no fields, and so many expressions
unfoldable pub plain_head : ℕ → EntryHead
plain_head n = record { name = none; reference = none; code = 0; key = 0; nullable = 0; unique = 0; index = 0; expressions = n }

-- a name or none, and so many expressions
unfoldable pub named_head : ℕ → Option Word → EntryHead
named_head n w = record { name = w; reference = none; code = 0; key = 0; nullable = 0; unique = 0; index = 0; expressions = n }

-- 1 for `desc`
unfoldable pub order_head : Bool → EntryHead
order_head d = record { name = none; reference = none; code = flag d; key = 0; nullable = 0; unique = 0; index = 0; expressions = 1 }

-- a default has no expression
unfoldable pub set_head : Word × Bool → EntryHead
set_head r = elim r.1 [ true ↦ named_head 0 (some r.0) | false ↦ named_head 1 (some r.0) ]

-- 0 not said, 1 null, 2 notnull
unfoldable pub null_number : Option Bool → ℕ
null_number none = 0
null_number (some true) = 1
null_number (some false) = 2

unfoldable pub column_head : ColumnHead → EntryHead
column_head c = record {
  name = some c.name;
  reference = c.reference;
  code = type_code c.type;
  key = flag c.key;
  nullable = null_number c.nullable;
  unique = flag c.unique;
  index = flag c.index;
  expressions = flag c.default;
}

-- what the fields of a record of a kind say, behind an entry with this name
unfoldable pub fields_of : ℕ → Option Bytes → List Word → Option EntryHead
fields_of k b r =
    get_or
    (
    map_option (named_head 1) (optional_name r)
    ∷ map_option (λ u. plain_head 1) (no_field r)
    ∷ map_option (λ u. plain_head 1) (no_field r)
    ∷ map_option (λ u. plain_head 1) (no_field r)
    ∷ map_option order_head (one_field (word directions) r)
    ∷ map_option (λ u. plain_head 1) (no_field r)
    ∷ map_option (λ u. plain_head 1) (no_field r)
    ∷ map_option (λ u. plain_head 0) (no_field r)
    ∷ map_option (λ w. named_head 0 (some w)) (one_field name r)
    ∷ map_option plain_head (one_field count_field r)
    ∷ map_option set_head (rising_set b r)
    ∷ map_option column_head (new_column_fields r)
    ∷ []
    )
    k
    none

unfoldable pub name_of : EntryHead → Option Bytes
name_of h = map_option (λ (w : Word). w.bytes) h.name

-- READING
-- the entries of a kind that stand here, behind n of them and the last one's name
unfoldable pub entries : ℕ → ℕ → ℕ → Option Bytes → Read (List Entry)
entries k zero n b = give []
entries k (suc fuel) n b = λ p. elim (at (keyword_of k) p) [
  | false ↦ ok ([], p)
  | true ↦ (do
    h ← record_within (fields_of k b) n (most_of k)
    es ← times h.1.expressions expression
    xs ← entries k fuel (suc n) (name_of h.1)
    give (record { line = h.0; head = h.1; exprs = es } ∷ xs)) p
]

-- one turn for a clause; else every turn takes a line, so the bytes left are enough turns
unfoldable pub turns_of : ℕ → ℕ → ℕ
turns_of k n = elim (is_once k) [ true ↦ 1 | false ↦ suc n ]

unfoldable pub section : ℕ → Read (List Entry)
section k p = entries k (turns_of k (length p.left)) 0 none p

unfoldable pub some_section : ℕ → Read (List Entry)
some_section k = at_least_one (keyword_of k) (section k)
