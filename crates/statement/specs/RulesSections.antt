-- Each part of a statement as the rules read it is its section.
use Rattle.std.specs.Prelude.{ℕ, ◌≡◌, refl, Bool, true, false, not, List, [], ◌∷◌}
use Rattle.std.proofs.Common.{sym, ◌∙◌}
use Rattle.std.proofs.Math.Path.{ap, fun_ext}
use Rattle.std.proofs.Math.Option.{Option, none, some}
use Rattle.rules.specs.Limits.{most_entries, most_rows, most_table_columns}
use Rattle.rules.specs.Lists.{Bytes, map_option, or_else}
use Rattle.rules.specs.Lines.{Word, bytes}
use Rattle.rules.specs.Ast.{Exprs, nil, cons, Named}
use Rattle.rules.specs.Reader.{Place, Read, give, stop, ◌>>=◌, ◌>>◌, at, rest, name, word, count_field, no_field, one_field, optional_name, optional, record', fit, record_within, many, turns, at_least_one}
use Rattle.rules.specs.ReadExpression.{times, expression, clause}
use Rattle.rules.specs.ReadColumn.{ColumnHead, new_column_fields}
use Rattle.rules.specs.ReadStatement.{item_body, group_body, directions, order_body, name_body, row_body, columns_here, rising_set, new_column, column_body, sets}
use Rattle.rules.specs.Area.{flag}
use Rattle.numbers.specs.Codes.{coded}
use Rattle.numbers.specs.Values.{flag-back, type-back}
use Rattle.entries.specs.Entries.{Entry, keyword_of, most_of, is_once, plain_head, named_head, order_head, set_head, null_number, column_head, fields_of, name_of, entries, turns_of, section, some_section}
use Rattle.statement.specs.Layout.{first_or, first_of, word_or, map_entries, to_item, to_group, to_key, to_clause, to_named, to_names, to_row, to_set, to_null, to_column}
use Rattle.statement.specs.Bodies.{names_behind}
use Rattle.statement.specs.Mapped.{mapped, same-steps, regroup, mapped-steps, mapped-twice, mapped-same, if_at, if_at-steps, if_at-mapped, within-mapped, steps-mapped}
use Rattle.statement.specs.RulesRuns.{entry_body, turn, Run, run-section, run-some, many-run}

-- EXPRESSIONS BEHIND A RECORD
-- what is made of one
one-expression : {A : Type 0} (f : Exprs → A) → mapped f (times 1 expression) ≡ mapped (λ e. f (cons e nil)) expression
unfolding times mapped ◌>>=◌ give
one-expression f = mapped-twice expression (λ e. cons e nil) f

-- one or none
flag-expression : (b : Bool) → optional b expression ≡ mapped first_of (times (flag b) expression)
unfolding times optional flag first_of mapped ◌>>=◌ give
flag-expression true = sym (one-expression first_of)
flag-expression false = refl

-- CODES READ BACK
null-back : (u : Option Bool) → to_null (null_number u) ≡ u
unfolding to_null null_number coded
null-back none = refl
null-back (some true) = refl
null-back (some false) = refl

-- SELECT
pub items-are : at_least_one (bytes "item") (turns λ k. many (bytes "item") optional_name most_entries item_body k 0) ≡ mapped (map_entries to_item) (some_section 0)
unfolding fields_of item_body entry_body keyword_of most_of is_once named_head to_item first_or mapped
items-are = run-some (many-run 0 optional_name item_body (named_head 1) to_item (λ b r. refl) (λ l a. sym (one-expression _))) refl

pub groups-are : turns (λ k. many (bytes "group") no_field most_entries group_body k 0) ≡ mapped (map_entries to_group) (section 2)
unfolding fields_of group_body entry_body keyword_of most_of is_once plain_head to_group first_or
groups-are = run-section (many-run 2 no_field group_body (λ u. plain_head 1) to_group (λ b r. refl) (λ l u. sym (one-expression _ ∙ mapped-same expression))) refl

pub keys-are : turns (λ k. many (bytes "order") (one_field (word directions)) most_entries order_body k 0) ≡ mapped (map_entries to_key) (section 4)
unfolding fields_of order_body entry_body keyword_of most_of is_once order_head to_key first_or mapped
keys-are = run-section (many-run 4 (one_field (word directions)) order_body order_head to_key (λ b r. refl) (λ l d. sym (one-expression _ ∙ simp flag-back))) refl

-- INSERT
pub names-are : turns (λ k. many (bytes "name") (one_field name) most_entries name_body k 0) ≡ mapped (map_entries to_named) (section 8)
unfolding fields_of name_body entry_body keyword_of most_of is_once named_head to_named word_or or_else times mapped ◌>>=◌ give
names-are = run-section (many-run 8 (one_field name) name_body (λ w. named_head 0 (some w)) to_named (λ b r. refl) (λ l w. refl)) refl

pub rows_are : at_least_one (bytes "row") (turns λ k. many (bytes "row") (one_field count_field) most_rows row_body k 0) ≡ mapped (map_entries to_row) (some_section 9)
unfolding fields_of row_body entry_body keyword_of most_of is_once plain_head to_row mapped
rows_are = run-some (many-run 9 (one_field count_field) row_body plain_head to_row (λ b r. refl) (λ l n. refl)) refl

-- CREATE
column-back : (l : ℕ) (c : ColumnHead) (es : Exprs) → new_column l c (first_of es) ≡ to_column (record { line = l; head = column_head c; exprs = es })
unfolding new_column to_column column_head word_or or_else
column-back l c es = simp (type-back, null-back, flag-back)

column-body : (l : ℕ) (c : ColumnHead) → column_body l c ≡ entry_body to_column l (column_head c)
unfolding column_body entry_body column_head mapped
column-body l c = rw (flag-expression c.default) (mapped-twice _ _ _ ∙ same-steps _ _ _ λ es. ap give (column-back l c es))

pub columns-are : turns (λ k. many (bytes "column") new_column_fields most_table_columns column_body k 0) ≡ mapped (map_entries to_column) (section 11)
unfolding fields_of keyword_of most_of is_once
columns-are = run-section (many-run 11 new_column_fields column_body column_head to_column (λ b r. refl) column-body) refl

-- UPDATE
set-head : (w : Word) (d : Bool) → set_head (w, d) ≡ named_head (flag (not d)) (some w)
unfolding set_head flag
set-head w true = refl
set-head w false = refl

set-run : Run 10 rising_set (λ l h. mapped (λ e. record { line = l; name = h.0; value = e }) (optional (not h.1) expression)) set_head to_set sets
unfolding fields_of if_at turn keyword_of most_of entry_body named_head to_set word_or or_else name_of sets map_option
set-run = record {
  fields = λ b r. refl;
  bodies = λ l h. rw (set-head h.0 h.1, flag-expression (not h.1)) (mapped-twice _ _ _);
  ends = λ n b. refl;
  turns = λ fuel n b. ap (if_at (bytes "set") []) (same-steps _ _ _ λ h. rw (set-head h.1.0 h.1.1) (sym (mapped-steps _ _ _)));
}

pub sets-are : at_least_one (bytes "set") (turns λ k. sets k 0 none) ≡ mapped (map_entries to_set) (some_section 10)
unfolding keyword_of is_once
sets-are = run-some set-run refl

-- ONE RECORD AT MOST
-- a kind of which one record stands at most, with no field and m expressions behind it
record Once (k m : ℕ) : Type 0 where
  fields : (r : List Word) → fields_of k none r ≡ map_option (λ u. plain_head m) (no_field r)
  most : most_of k ≡ 1
  once : is_once k ≡ true

-- its record and its entry
abbrev only_entry : ℕ → Read (List Entry)
only_entry m = record_within no_field 0 1 >>= λ h. mapped (λ es. record { line = h.0; head = plain_head m; exprs = es } ∷ []) (times m expression)

module _ {k m : ℕ} (o : Once k m) where
  only-entry : (record_within (fields_of k none) 0 (most_of k) >>= λ h. mapped (λ es. record { line = h.0; head = h.1; exprs = es } ∷ []) (times h.1.expressions expression)) ≡ only_entry m
  unfolding plain_head
  only-entry = rw (o.most, within-mapped no_field (fields_of k none) (λ u. plain_head m) o.fields 0 1) (mapped-steps _ _ _)

  once-section : section k ≡ if_at (keyword_of k) [] (only_entry m)
  unfolding section turns_of entries if_at mapped ◌>>=◌ give
  once-section = (fun_ext λ p. rw (section, turns_of, o.once, entries)) ∙ ap (if_at (keyword_of k) []) only-entry

clause-is : (k : Bytes) → clause k ≡ if_at k none (record_within no_field 0 1 >>= λ h. mapped (λ e. some (record { line = h.0; expr = e })) expression)
unfolding clause if_at record_within ◌>>=◌ stop mapped
clause-is k = fun_ext λ p. go p (at k p) refl (no_field (rest p)) refl
  where
    go : (p : Place) (b : Bool) → at k p ≡ b → (o : Option (Unit {0})) → no_field (rest p) ≡ o
        → clause k p ≡ if_at k none (record_within no_field 0 1 >>= λ h. mapped (λ e. some (record { line = h.0; expr = e })) expression) p
    go p false e o z = rw (clause, if_at, e)
    go p true e none z = rw (clause, if_at, e, ◌>>=◌, record_within, z)
    go p true e (some u) z = rw (clause, if_at, e, ◌>>=◌, record_within, z)

-- a clause is its section
clause-section : {k : ℕ} → Once k 1 → clause (keyword_of k) ≡ mapped to_clause (section k)
unfolding to_clause first_or
clause-section {k} o = rw (clause-is (keyword_of k), once-section o, if_at-mapped, steps-mapped)
    (ap (if_at (keyword_of k) none) (same-steps _ _ _ λ h. sym (mapped-twice _ _ _ ∙ one-expression _)))

pub where-is : clause (bytes "where") ≡ mapped to_clause (section 1)
unfolding fields_of keyword_of most_of is_once
where-is = clause-section {k = 1} (record { fields = λ r. refl; most = refl; once = refl })

pub having-is : clause (bytes "having") ≡ mapped to_clause (section 3)
unfolding fields_of keyword_of most_of is_once
having-is = clause-section {k = 3} (record { fields = λ r. refl; most = refl; once = refl })

pub offset-is : clause (bytes "offset") ≡ mapped to_clause (section 5)
unfolding fields_of keyword_of most_of is_once
offset-is = clause-section {k = 5} (record { fields = λ r. refl; most = refl; once = refl })

pub limit_is : clause (bytes "limit") ≡ mapped to_clause (section 6)
unfolding fields_of keyword_of most_of is_once
limit_is = clause-section {k = 6} (record { fields = λ r. refl; most = refl; once = refl })

-- `columns` and the names behind it are two sections
abbrev names : Read (List Named)
names = turns λ k. many (bytes "name") (one_field name) most_entries name_body k 0

columns-here : columns_here ≡ if_at (bytes "columns") none (record_within no_field 0 1 >>= λ h. mapped some names)
unfolding columns_here if_at record' record_within fit ◌>>=◌ ◌>>◌ stop mapped
columns-here = fun_ext λ p. go p (at (bytes "columns") p) refl (no_field (rest p)) refl
  where
    go : (p : Place) (b : Bool) → at (bytes "columns") p ≡ b → (o : Option (Unit {0})) → no_field (rest p) ≡ o
        → columns_here p ≡ if_at (bytes "columns") none (record_within no_field 0 1 >>= λ h. mapped some names) p
    go p false e o z = rw (columns_here, if_at, e)
    go p true e none z = rw (columns_here, if_at, e, ◌>>=◌, ◌>>◌, record', record_within, e, z)
    go p true e (some u) z = rw (columns_here, if_at, e, ◌>>=◌, ◌>>◌, record', record_within, e, z)

columns-once : Once 7 0
unfolding fields_of most_of is_once
columns-once = record { fields = λ r. refl; most = refl; once = refl }

pub names-behind : columns_here ≡ (section 7 >>= λ cs. mapped (to_names cs) (names_behind cs))
unfolding names_behind to_names times mapped ◌>>=◌ give keyword_of
names-behind = rw (columns-here, names-are, once-section columns-once)
    (ap (if_at (bytes "columns") none) (same-steps (record_within no_field 0 1) _ _ (λ h. mapped-twice (section 8) (map_entries to_named) some) ∙ sym (regroup (record_within no_field 0 1) _ _))
    ∙ sym (if_at-steps (bytes "columns") [] _ _ none refl))
