-- What the entries of a statement stand for, by their numbers (crate sections): the k-th item, group, order key, name, row, set or
-- column, and a clause.
use Rattle.std.specs.Prelude.{ℕ, zero, suc, ◌+◌, ◌≤◌, ◌<◌, ◌≡◌, Bool, List, [], ◌∷◌, length, get_or, drop}
use Rattle.std.specs.Prelude as std
use Rattle.std.proofs.Common.{arith, ◌∙◌}
use Rattle.std.proofs.Math.Path.{refl, sym, ap}
use Rattle.std.proofs.Math.Bool.{true, false}
use Rattle.std.proofs.Math.Option.{Option, none, some}
use Rattle.std.proofs.Math.Dec.{eqb}
use Rattle.std.proofs.lemmas.List.{nil_from_length}
use borrow.Author.Tests.{eqb-true, eqb-false, eq-eqb, ne_eqb}
use Rattle.rules.specs.Lists.{Bytes, entry_after, map_option, or_else}
use Rattle.rules.specs.Lines.{Word}
use Rattle.rules.specs.Places.{bytes_at, word_at}
use Rattle.rules.specs.Ast.{Expr, Clause, list_of}
use Rattle.rules.specs.Ast as Ast
use Rattle.ast.specs.Table.{arguments_at, tree_at}
use Rattle.ast.specs.Names.{name_at, option_name, name-place}
use Rattle.numbers.specs.Codes.{coded-map}
use Rattle.numbers.specs.Options.{option_of}
use Rattle.numbers.specs.Datatypes.{type_of, datatype-type}
use Rattle.numbers.specs.Values.{is_one}
use Rattle.text.specs.Places.{place_of}
use Rattle.entries.specs.Entries as E
use Rattle.entries.specs.declared.NewColumn.{NewColumn}
use Rattle.sections.specs.Layout.{start_of, head_at, entry_at, section_at}
use Rattle.sections.specs.OneEntry.{entry_start}
use Rattle.sections.specs.Access.{null_of, column_from, numbers_from, numbers_at, after-drop, section-count, section-entry}
use Rattle.sections.specs.Expressions.{outside_row, expr_row, star-outside, first-none, exprs_of, exprs-none, exprs-some}
use Rattle.sections.specs.declared.entry.Entry.{Entry}
use Rattle.statement.specs.Access.{name_or}
use Rattle.statement.specs.Layout.{first_or, first_of, word_or, map_entries, to_item, to_group, to_key, to_clause}
use Rattle.statement.specs.Layout.{to_named, to_names, to_row, to_set, to_null, to_column}
use Rattle.statement.specs.declared.access.Clause as Cl

-- NAMES
-- an entry's name where it has to have one
abbrev pub word_of : Bytes → Bytes → Entry → Word
word_of b q e = word_at b q (name_or e.name).address (name_or e.name).length

module _ (b q : Bytes) where
  word-or : (a n : ℕ) → word_or (name_at b q a n) ≡ word_at b q (name_or (place_of a n)).address (name_or (place_of a n)).length
  unfolding word_or or_else name_at place_of name_or word_at bytes_at
  word-or a zero = refl
  word-or a (suc n) = refl

-- EXPRESSIONS
module _ (b q : Bytes) (cells : List ℕ) where
  -- the first expression where there is one
  unfoldable pub given_of : Entry → Option Expr
  given_of e = elim (eqb e.expressions 0) [ true ↦ none | false ↦ some (tree_at b q cells (expr_row e)) ]

  pub given-none : (e : Entry) → e.expressions ≡ 0 → given_of e ≡ none
  unfolding given_of
  given-none e h = rw (given_of, eq-eqb e.expressions 0 h)

  pub given-some : (e : Entry) → (e.expressions ≡ 0 → ⊥) → given_of e ≡ some (tree_at b q cells (expr_row e))
  unfolding given_of
  given-some e h = rw (given_of, ne_eqb e.expressions 0 h)

  first-given : (e : Entry) → first_of (exprs_of e b q cells) ≡ given_of e
  unfolding first_of
  first-given e = go (eqb e.expressions 0) refl
    where
      go : (t : Bool) → eqb e.expressions 0 ≡ t → first_of (exprs_of e b q cells) ≡ given_of e
      go true h =
          let z = eqb-true e.expressions 0 h in
          ap first_of (exprs-none e b q cells z) ∙ sym (given-none e z)
      go false h =
          let z = eqb-false e.expressions 0 h in
          ap first_of (exprs-some e b q cells z) ∙ sym (given-some e z)

  -- the column that CREATE gives
  unfoldable pub column_of : Entry → NewColumn → Ast.NewColumn
  column_of e new = record {
    line = e.line;
    name = word_of b q e;
    type = type_of new.datatype;
    key = new.key;
    nullable = option_of new.nullable;
    unique = new.unique;
    index = new.index;
    default = given_of e;
    reference = option_name b q new.reference;
  }

  -- the first expression is the tree at its row, and a star where there is none
  pub first-tree : length cells ≤ outside_row → (e : Entry)
      → first_or (exprs_of e b q cells) ≡ tree_at b q cells (expr_row e)
  unfolding first_or
  first-tree l e = go (eqb e.expressions 0) refl
    where
      go : (t : Bool) → eqb e.expressions 0 ≡ t
          → first_or (exprs_of e b q cells) ≡ tree_at b q cells (expr_row e)
      go true h =
          let z = eqb-true e.expressions 0 h in
          ap first_or (exprs-none e b q cells z)
          ∙ sym (ap (tree_at b q cells) (first-none e z) ∙ star-outside b q cells outside_row l)
      go false h = ap first_or (exprs-some e b q cells (eqb-false e.expressions 0 h))

-- NULLS
null-is : (k : ℕ) → to_null k ≡ option_of (null_of k)
unfolding to_null null_of
null-is k = sym (coded-map (λ (o : std.Option Bool). option_of o) std.None _ 1 k)

-- ENTRIES
map-after : {A : Type 0} (f : E.Entry → A) (k : ℕ) (xs : List E.Entry) (x : E.Entry) → entry_after k xs ≡ some x
    → entry_after k (map_entries f xs) ≡ some (f x)
unfolding map_entries entry_after map_option
map-after f k [] x h = cc
map-after f zero (y ∷ xs) x h = ap (map_option f) h
map-after f (suc k) (y ∷ xs) x h = map-after f k xs x h

pub map-length : {A : Type 0} (f : E.Entry → A) (xs : List E.Entry) → length (map_entries f xs) ≡ length xs
unfolding map_entries
map-length f [] = refl
map-length f (x ∷ xs) = ap suc (map-length f xs)

-- what the entry with the numbers from i on stands for
module _ (b q : Bytes) (cells parts : List ℕ) (i : ℕ) where
  abbrev here : E.Entry
  here = entry_at b q cells parts i

  abbrev e : Entry
  e = numbers_from parts i

  abbrev new : NewColumn
  new = column_from parts i

  named-from : to_named here ≡ record { line = e.line; name = word_of b q e }
  unfolding to_named entry_at head_at numbers_from
  named-from = rw (word-or b q (get_or parts (i + 3) 0) (get_or parts (i + 4) 0))

  row-from : to_row here ≡ list_of (exprs_of e b q cells)
  unfolding to_row entry_at numbers_from
  row-from = refl

  set-from : to_set here ≡ record { line = e.line; name = word_of b q e; value = given_of b q cells e }
  unfolding to_set entry_at head_at numbers_from
  set-from = rw (word-or b q (get_or parts (i + 3) 0) (get_or parts (i + 4) 0), ← first-given b q cells (numbers_from parts i))

  column-from : to_column here ≡ column_of b q cells e new
  unfolding to_column entry_at head_at numbers_from column_from column_of
  column-from =
      rw (
        word-or b q (get_or parts (i + 3) 0) (get_or parts (i + 4) 0),
        ← first-given b q cells (numbers_from parts i),
        datatype-type (get_or parts (i + 5) 0),
        null-is (get_or parts (i + 7) 0),
        name-place b q (get_or parts (i + 10) 0) (get_or parts (i + 11) 0),
      )

  module _ (s : length cells ≤ outside_row) where
    item-from : to_item here ≡ record { line = e.line; expr = tree_at b q cells (expr_row e); alias = option_name b q e.name }
    unfolding to_item entry_at head_at numbers_from
    item-from = rw (name-place b q (get_or parts (i + 3) 0) (get_or parts (i + 4) 0), ← first-tree b q cells s (numbers_from parts i))

    group-from : to_group here ≡ tree_at b q cells (expr_row e)
    unfolding to_group entry_at numbers_from
    group-from = first-tree b q cells s (numbers_from parts i)

    key-from : to_key here ≡ record { expr = tree_at b q cells (expr_row e); descending = is_one (get_or parts (i + 5) 0) }
    unfolding to_key entry_at head_at numbers_from
    key-from = rw (← first-tree b q cells s (numbers_from parts i))

-- entry k of a section
module _ (b q : Bytes) (cells parts : List ℕ) (kind k : ℕ) (e : Entry) (h : e ≡ numbers_at parts kind k)
    (l : k < length (section_at b q cells parts kind)) where
  abbrev entries_here : List E.Entry
  entries_here = section_at b q cells parts kind

  at-k : {A : Type 0} (f : E.Entry → A) (x : A) → f (entry_at b q cells parts (entry_start kind k)) ≡ x → entry_after k (map_entries f entries_here) ≡ some x
  at-k f x y = map-after f k entries_here _ (section-entry b q cells parts kind k l) ∙ ap some y

  pub named-at : entry_after k (map_entries to_named entries_here) ≡ some (record { line = e.line; name = word_of b q e })
  unfolding numbers_at
  named-at = rw h (at-k to_named _ (named-from b q cells parts (entry_start kind k)))

  pub row_at : entry_after k (map_entries to_row entries_here)
      ≡ some (list_of (arguments_at (tree_at b q cells) cells e.expressions e.row))
  unfolding numbers_at
  row_at = rw h (at-k to_row _ (row-from b q cells parts (entry_start kind k)))

  pub set_at : entry_after k (map_entries to_set entries_here)
      ≡ some (record { line = e.line; name = word_of b q e; value = given_of b q cells e })
  unfolding numbers_at
  set_at = rw h (at-k to_set _ (set-from b q cells parts (entry_start kind k)))

  pub column-at : (n : NewColumn) → n ≡ column_from parts (entry_start kind k) → entry_after k (map_entries to_column entries_here) ≡ some (column_of b q cells e n)
  unfolding numbers_at
  column-at n g = rw (h, g) (at-k to_column _ (column-from b q cells parts (entry_start kind k)))

  module _ (s : length cells ≤ outside_row) where
    pub item-at : entry_after k (map_entries to_item entries_here) ≡ some (record {
      line = e.line;
      expr = tree_at b q cells (expr_row e);
      alias = option_name b q e.name;
    })
    unfolding numbers_at
    item-at = rw h (at-k to_item _ (item-from b q cells parts (entry_start kind k) s))

    pub group_at : entry_after k (map_entries to_group entries_here) ≡ some (tree_at b q cells (expr_row e))
    unfolding numbers_at
    group_at = rw h (at-k to_group _ (group-from b q cells parts (entry_start kind k) s))

    pub key-at : (d : Bool) → d ≡ is_one (get_or parts (entry_start kind k + 5) 0) → entry_after k (map_entries to_key entries_here)
        ≡ some (record { expr = tree_at b q cells (expr_row e); descending = d })
    unfolding numbers_at
    key-at d g = rw (h, g) (at-k to_key _ (key-from b q cells parts (entry_start kind k) s))

-- CLAUSES
-- the inserted names, where there is a `columns`
pub names-none : (cs ns : List E.Entry) → length cs ≡ 0 → to_names cs ns ≡ none
unfolding to_names
names-none [] ns h = refl
names-none (c ∷ cs) ns h = absurd (omega arith)

pub names-some : (cs ns : List E.Entry) → (length cs ≡ 0 → ⊥) → to_names cs ns ≡ some (map_entries to_named ns)
unfolding to_names
names-some [] ns h = absurd (h refl)
names-some (c ∷ cs) ns h = refl

-- the clause that a section's numbers are
unfoldable pub clause_at : List ℕ → ℕ → std.Option Cl.Clause
clause_at parts kind = elim (eqb (get_or parts (start_of kind) 0) 0) [
  | true ↦ std.None
  | false ↦ std.Some (record { line = (numbers_at parts kind 0).line; row = expr_row (numbers_at parts kind 0) })
]

-- what it stands for
unfoldable pub clause_of : Bytes → Bytes → List ℕ → std.Option Cl.Clause → Option Clause
clause_of b q cells std.None = none
clause_of b q cells (std.Some clause) = some (record { line = clause.line; expr = tree_at b q cells clause.row })

module _ (parts : List ℕ) (kind : ℕ) where
  pub clause-none : get_or parts (start_of kind) 0 ≡ 0 → std.None ≡ clause_at parts kind
  unfolding clause_at
  clause-none h = rw (clause_at, eq-eqb _ 0 h)

  pub clause-some : (get_or parts (start_of kind) 0 ≡ 0 → ⊥)
      → std.Some (record { line = (numbers_at parts kind 0).line; row = expr_row (numbers_at parts kind 0) }) ≡ clause_at parts kind
  unfolding clause_at
  clause-some h = rw (clause_at, ne_eqb _ 0 h)

  pub clause-by : (e : Entry) (r n : ℕ) → e ≡ numbers_at parts kind 0 → r ≡ expr_row e → n ≡ get_or parts (start_of kind) 0
      → (n ≡ 0 → ⊥) → std.Some (record { line = e.line; row = r }) ≡ clause_at parts kind
  clause-by e r n h g m ne = rw (g, h) (clause-some (λ z. ne (m ∙ z)))

  module _ (b q : Bytes) (cells : List ℕ) (s : length cells ≤ outside_row) where
    clause-first : (i : ℕ) (ys : List E.Entry) → to_clause (entry_at b q cells parts i ∷ ys)
        ≡ clause_of b q cells (std.Some (record { line = (numbers_from parts i).line; row = expr_row (numbers_from parts i) }))
    unfolding to_clause clause_of entry_at numbers_from
    clause-first i ys = ap (λ (x : Expr). some (record { line = get_or parts i 0; expr = x })) (first-tree b q cells s (numbers_from parts i))

    clause-missing : get_or parts (start_of kind) 0 ≡ 0
        → to_clause (section_at b q cells parts kind) ≡ clause_of b q cells std.None
    unfolding to_clause clause_of
    clause-missing n = ap to_clause (nil_from_length (section_at b q cells parts kind) (section-count b q cells parts kind ∙ n))

    clause-stands : (get_or parts (start_of kind) 0 ≡ 0 → ⊥) → to_clause (section_at b q cells parts kind)
        ≡ clause_of b q cells (std.Some (record { line = (numbers_at parts kind 0).line; row = expr_row (numbers_at parts kind 0) }))
    clause-stands n =
        let xs = section_at b q cells parts kind in
        let i = entry_start kind 0 in
        let m : 0 < length xs = omega (arith, section-count b q cells parts kind, n) in
        let f : xs ≡ entry_at b q cells parts i ∷ drop 1 xs = after-drop 0 xs (entry_at b q cells parts i) (section-entry b q cells parts kind 0 m) in
        ap to_clause f ∙ (unfold numbers_at in clause-first i (drop 1 xs))

    -- the clause, by its numbers
    pub clause-is : (x : std.Option Cl.Clause) → x ≡ clause_at parts kind
        → to_clause (section_at b q cells parts kind) ≡ clause_of b q cells x
    clause-is x h = go (eqb (get_or parts (start_of kind) 0) 0) refl
      where
        go : (t : Bool) → eqb (get_or parts (start_of kind) 0) 0 ≡ t
            → to_clause (section_at b q cells parts kind) ≡ clause_of b q cells x
        go true z =
            let n = eqb-true (get_or parts (start_of kind) 0) 0 z in
            clause-missing n ∙ ap (clause_of b q cells) (clause-none n ∙ sym h)
        go false z =
            let n = eqb-false (get_or parts (start_of kind) 0) 0 z in
            clause-stands n ∙ ap (clause_of b q cells) (clause-some n ∙ sym h)
