-- CREATE as its parts were read: its columns by their numbers, the columns given as primary key, and each column's defaults
-- and flags.
use Rattle.std.specs.Prelude.{ℕ, zero, suc, ◌+◌, ◌-◌, ◌≤◌, ◌<◌, ◌≡◌, Bool, ◌&&◌, ◌||◌, List, [], ◌∷◌, map, length, drop, Result, Ok, Err, Some, None}
use Rattle.std.specs.Prelude as std
use Rattle.std.specs.Bool.{then_some}
use Rattle.std.proofs.Common.{arith, drop_of_length-le, ◌∙◌}
use Rattle.std.proofs.Math.Path.{refl, ap}
use Rattle.std.proofs.Math.Bool.{true, false, not}
use Rattle.std.proofs.Math.Option.{Option, none, some}
use Rattle.std.proofs.lemmas.Option.{same_Some, none-some}
use Rattle.rules.specs.Refusals.{statement, Answer, ok, refused, ◌>>=◌, refuse}
use Rattle.rules.specs.Limits.{most_table_columns}
use Rattle.rules.specs.Lists.{Bytes, concat, is_some, or_else}
use Rattle.rules.specs.Lines.{Word}
use Rattle.rules.specs.Places.{bytes_at, word_at}
use Rattle.rules.specs.Schema.{Value, null}
use Rattle.rules.specs.Ast.{NewColumn, Create}
use Rattle.rules.specs.Plan.{Built, Made, Plan}
use Rattle.rules.specs.Plan as P
use Rattle.rules.specs.BuildExpression.{each, constant}
use Rattle.rules.specs.BuildStatement.{KeyColumn, key_columns, null_default, default_value, made_column}
use Rattle.rules.specs.Area.{span, value_numbers, default_numbers, made_numbers, own_numbers}
use Rattle.numbers.specs.Reasons.{told}
use Rattle.numbers.specs.declared.refusals.Refusal.{Refusal}
use Rattle.ast.specs.Table.{tree_at}
use Rattle.text.specs.declared.places.Place.{Place}
use Rattle.ast.specs.Names.{option_name}
use Rattle.numbers.specs.Options.{option_of}
use Rattle.numbers.specs.Datatypes.{type_of}
use Rattle.entries.specs.declared.NewColumn as given
use Rattle.sections.specs.Layout.{section_at}
use Rattle.sections.specs.Access.{column_kind, numbers_at, new_column, after-drop}
use Rattle.sections.specs.Expressions.{expr_row}
use Rattle.sections.specs.declared.entry.Entry.{Entry}
use Rattle.value.specs.Values.{value_of}
use Rattle.value.specs.declared.Value as Va
use Rattle.expression.specs.Answers.{map_answer, answered, constant_value, constant_of}
use Rattle.expression.specs.declared.Constant.{Constant}
use Rattle.expression.specs.declared.Constant.TheVariants as Co
use Rattle.numbers.specs.Literals.{literal_value, literal_numbers, given_numbers}
use Rattle.numbers.specs.declared.literals.Literal.{Literal}
use Rattle.statement.specs.Layout.{to_column, map_entries, create_of}
use Rattle.statement.specs.Access.{line_at, name_address, name_length, name_word, name_or}
use Rattle.statement.specs.EntryAccess.{word_of, given_of, given-none, given-some, map-length, column-at}
pub use Rattle.statement.specs.EntryAccess.{column_of}
use Rattle.build_statement.specs.Kinds.{Free}
use Rattle.plan.specs.Places.{place_numbers}
use Rattle.plan.specs.declared.nodes.Nodes.{Nodes}

-- COLUMNS
-- whether a column may be null
unfoldable pub nullable_of : given.NewColumn → Bool
nullable_of n = or_else (option_of n.nullable) (not n.key)

pub nullable-is : (n : given.NewColumn) → std.unwrap_or n.nullable (not n.key) ≡ nullable_of n
unfolding nullable_of or_else
nullable-is n = go n.nullable
  where
    go : (o : std.Option Bool) → std.unwrap_or o (not n.key) ≡ or_else (option_of o) (not n.key)
    go std.None = refl
    go (std.Some b) = refl

-- the numbers of its name
pub name-span : (c q : Bytes) (e : Entry) {a p : Place} → a ≡ name_or e.name → p.address ≡ a.address
    → p.length ≡ length (bytes_at c q a.address a.length) → span (word_of c q e) ≡ place_numbers p
unfolding span word_at
name-span c q e f g h = rw (h, g, f)

-- and of the statement's
pub word-span : (c q : Bytes) (parts : List ℕ) {a n : ℕ} {p : Place} → a ≡ name_address parts → n ≡ name_length parts
    → p.address ≡ a → p.length ≡ length (bytes_at c q a n)
    → span (word_at c q (name_address parts) (name_length parts)) ≡ place_numbers p
unfolding span word_at
word-span c q parts f g h l = rw (l, h, f, g)

module _ (c q : Bytes) where
  unfoldable pub index_of : given.NewColumn → Bool
  index_of n = (n.index || n.unique || is_some (option_name c q n.reference)) && not n.key

  -- the column that is made of an entry, with its default
  unfoldable pub made_of : Entry → given.NewColumn → Bool → Option Value → Made
  made_of e new n d = record {
    name = word_of c q e;
    type = type_of new.datatype;
    nullable = n;
    default = d;
    unique = new.unique || new.key;
    index = index_of new;
    reference = option_name c q new.reference;
  }

  module _ (cells : List ℕ) where
    -- a column is made where its default is
    pub made-column : (e : Entry) (new : given.NewColumn)
        → made_column (column_of c q cells e new) ≡ map_answer (made_of e new (nullable_of new)) (default_value (nullable_of new) (given_of c q cells e))
    unfolding made_column column_of made_of nullable_of index_of map_answer ◌>>=◌
    made-column e new = go (default_value (nullable_of new) (given_of c q cells e))
      where
        go : (a : Answer (Option Value)) → (a >>= λ d. ok (made_of e new (nullable_of new) d)) ≡ map_answer (made_of e new (nullable_of new)) a
        go (ok d) = refl
        go (refused w) = refl

    module _ (parts : List ℕ) where
      abbrev pub columns_at : List NewColumn
      columns_at = map_entries to_column (section_at c q cells parts column_kind)

      pub column-here : (i : ℕ) (e : Entry) (new : given.NewColumn) → e ≡ numbers_at parts column_kind i → new ≡ new_column parts i
          → i < length (section_at c q cells parts column_kind) → drop i columns_at ≡ column_of c q cells e new ∷ drop (suc i) columns_at
      column-here i e new h g l = after-drop i columns_at (column_of c q cells e new) (column-at c q cells parts column_kind i e h l new g)

      pub column-end : (i : ℕ) → length (section_at c q cells parts column_kind) ≤ i → drop i columns_at ≡ []
      column-end i h = drop_of_length-le columns_at {i = i} (rw (map-length to_column (section_at c q cells parts column_kind)) h)

      -- the statement
      abbrev pub create_at : Create
      create_at = create_of (line_at parts) (name_word c q cells [] parts) (section_at c q cells parts column_kind)

      -- KEYS
      -- the columns given as primary key from position k on, by the first of them
      unfoldable pub keys_of : std.Option ℕ → List KeyColumn
      keys_of (Some i) =
          record { position = i; line = (numbers_at parts column_kind i).line } ∷ key_columns (suc i) (drop (suc i) columns_at)
      keys_of None = []

      pub record Keys (k : ℕ) (r : std.Option ℕ) : Type 0 where
        pub keys : key_columns k (drop k columns_at) ≡ keys_of r
        pub inside : (i : ℕ) → r ≡ Some i → i < length (section_at c q cells parts column_kind)

      pub key-hit : (i : ℕ) (new : given.NewColumn) → new ≡ new_column parts i
          → i < length (section_at c q cells parts column_kind) → new.key ≡ true
          → key_columns i (drop i columns_at) ≡ keys_of (Some i)
      unfolding key_columns keys_of column_of
      key-hit i new g l k = rw (column-here i (numbers_at parts column_kind i) new refl g l, key_columns, k)

      pub key-miss : (i : ℕ) (new : given.NewColumn) → new ≡ new_column parts i
          → i < length (section_at c q cells parts column_kind) → new.key ≡ false
          → key_columns i (drop i columns_at) ≡ key_columns (suc i) (drop (suc i) columns_at)
      unfolding key_columns column_of
      key-miss i new g l k = rw (column-here i (numbers_at parts column_kind i) new refl g l, key_columns, k)

      pub key-none : (i : ℕ) → length (section_at c q cells parts column_kind) ≤ i
          → key_columns i (drop i columns_at) ≡ keys_of None
      unfolding key_columns keys_of
      key-none i h = rw (column-end i h)

      -- no key from position k up to i
      keys-behind : (d : ℕ) {k i : ℕ} → k + d ≡ i
          → ((j : ℕ) → k ≤ j → j < i → (j < length (section_at c q cells parts column_kind)) × ((new_column parts j).key ≡ false))
          → key_columns k (drop k columns_at) ≡ key_columns i (drop i columns_at)
      keys-behind zero {k} {i} e h = let z : k ≡ i = omega arith in ap (λ n. key_columns n (drop n columns_at)) z
      keys-behind (suc d) {k} e h =
          let here = h k (omega arith) (omega arith) in
          key-miss k (new_column parts k) refl here.0 here.1
          ∙ keys-behind d (omega arith) (λ j a b. h j (omega arith) b)

      pub keys-found : (k : ℕ) (r : std.Option ℕ) {n : ℕ} → n ≡ length (section_at c q cells parts column_kind)
          → std.MatchOption r ((j : ℕ) → k ≤ j → j < n → (new_column parts j).key ≡ false)
          (λ i. (k ≤ i) × (i < n) × ((new_column parts i).key ≡ true)
          × ((j : ℕ) → k ≤ j → j < i → (new_column parts j).key ≡ false))
          → Keys k r
      keys-found k None {n} e h = record {
        keys = keys-behind (n - k) refl (λ j a b. (omega (arith, e), h j a (omega (arith, e))))
            ∙ key-none (k + (n - k)) (omega (arith, e));
        inside = λ i f. absurd (none-some i f);
      }
      keys-found k (Some i) e h = record {
        keys = keys-behind (i - k) (omega (arith, h.0)) (λ j a b. (omega (arith, e, h.1), h.3 j a b))
            ∙ key-hit i (new_column parts i) refl (omega (arith, e, h.1)) h.2;
        inside = λ j f. rw (← same_Some _ _ f) (omega (arith, e, h.1));
      }

-- INDEX
module _ (c q : Bytes) (n : given.NewColumn) where
  pub index_key : n.key ≡ true → false ≡ index_of c q n
  unfolding index_of
  index_key k = rw k (go (n.index || n.unique || is_some (option_name c q n.reference)))
    where
      go : (b : Bool) → false ≡ (b && false)
      go true = refl
      go false = refl

  -- b says whether an index is given or the column is unique
  module _ (k : n.key ≡ false) {b : Bool} (e : b ≡ (n.index || n.unique)) where
    pub index-given : b ≡ true → b ≡ index_of c q n
    unfolding index_of
    index-given h = rw k (go n.index n.unique (is_some (option_name c q n.reference)) b e h)
      where
        go : (i u r b : Bool) → b ≡ (i || u) → b ≡ true → b ≡ ((i || u || r) && true)
        go true u r b e h = h
        go false true r b e h = h
        go false false r b e h = grind arith

    pub index-reference : b ≡ false → std.is_some n.reference ≡ index_of c q n
    unfolding index_of option_name is_some
    index-reference h = rw k (go n.index n.unique n.reference b e h)
      where
        go : (i u : Bool) (o : std.Option Place) (b : Bool) → b ≡ (i || u) → b ≡ false
            → std.is_some o ≡ ((i || u || is_some (option_name c q o)) && true)
        go true u o b e h = grind arith
        go false true o b e h = grind arith
        go false false std.None b e h = refl
        go false false (std.Some p) b e h = refl

-- DEFAULTS
unfoldable pub default_of : Result (std.Option Literal) Refusal → Answer (List ℕ)
default_of (Ok m) = ok (given_numbers m)
default_of (Err w) = refused (told statement w)

module _ (c q : Bytes) (cells : List ℕ) (e : Entry) (n : Bool) where
  abbrev answer : Answer (List ℕ)
  answer = map_answer default_numbers (default_value n (given_of c q cells e))

  pub none-given : e.expressions ≡ 0 → (x : Literal) → literal_numbers x ≡ value_numbers null
      → default_of (Ok (then_some n x)) ≡ answer
  unfolding default_of given_numbers map_answer default_value null_default default_numbers
  none-given z x h = rw (given-none c q cells e z) (go n)
    where
      go : (b : Bool) → default_of (Ok (then_some b x)) ≡ map_answer default_numbers (default_value b none)
      go true = rw h
      go false = refl

  module _ (z : e.expressions ≡ 0 → ⊥) (r : ℕ) (f : r ≡ expr_row e) (x : Result Constant Refusal)
      (h : constant_of c q x ≡ constant (tree_at c q cells r)) where
    constant-is : default_value n (given_of c q cells e) ≡ (constant_of c q x >>= λ v. ok (some v))
    unfolding default_value
    constant-is = rw (given-some c q cells e z, h, f)

    pub literal-given : (l : Literal) (v : Constant) (y : Literal) → x ≡ Ok v → v ≡ Co.Literal l → literal_numbers y ≡ value_numbers (literal_value c q l)
        → default_of (Ok (std.Some y)) ≡ answer
    unfolding default_of given_numbers map_answer default_numbers answered constant_value ◌>>=◌
    literal-given l v y e i g = rw (constant-is, e, i, g)

    pub value-given : (u : Va.Value) (v : Constant) (y : Literal) → x ≡ Ok v → v ≡ Co.Value u → literal_numbers y ≡ value_numbers (value_of c q u)
        → default_of (Ok (std.Some y)) ≡ answer
    unfolding default_of given_numbers map_answer default_numbers answered constant_value ◌>>=◌
    value-given u v y e i g = rw (constant-is, e, i, g)

    pub refused-given : (w : Refusal) → x ≡ Err w → default_of (Err w) ≡ answer
    unfolding default_of map_answer answered ◌>>=◌ refuse
    refused-given w e = rw (constant-is, e)

-- NUMBERS
unfoldable pub columns_numbers : List Made → List ℕ
columns_numbers ms = concat (map made_numbers ms)

unfoldable pub table_numbers : Word → ℕ → List Made → List ℕ
table_numbers w key ms = own_numbers (P.create w key ms)

-- ROOM AND THE WHOLE
pub record CreateReady (c q : Bytes) (cells parts area : List ℕ) (nodes : Nodes) : Type 0 where
  pub few_columns : length (section_at c q cells parts column_kind) ≤ most_table_columns
  pub free : Free area nodes

module _ (c q : Bytes) (cells parts : List ℕ) where
  -- the plan, where there is one key
  unfoldable pub with_key : ℕ → Answer (Plan Built)
  with_key key = each made_column (columns_at c q cells parts) >>= λ ms. ok (P.create (name_word c q cells [] parts) key ms)
