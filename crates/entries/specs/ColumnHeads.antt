-- CREATE's column record: its name, its words, its reference or none.
use Prim.Native.Nat.{ℕ, suc, ◌+◌, ◌-◌, ◌≤◌}
use native.Mathlib.Omega.{arith}
use Rattle.std.specs.Prelude.{◌≡◌, Bool, true, false, List, [], ◌∷◌, length, get_or, Some, None}
use Rattle.std.specs.Prelude as std
use Rattle.std.proofs.Math.Path.{refl}
use Rattle.std.proofs.Common.{ap, ◌∙◌}
use Rattle.std.proofs.Math.Option.{Option, none, some}
use Rattle.rules.specs.Limits.{most_bytes}
use Rattle.rules.specs.Refusals.{statement}
use Rattle.rules.specs.Lists.{Bytes, map_option}
use Rattle.rules.specs.Lines.{Word, bytes}
use Rattle.rules.specs.Schema.{Datatype}
use Rattle.rules.specs.Reader.{base_address, rest, name, word, optional_name}
use Rattle.rules.specs.ReadColumn.{◌>>=◌, datatypes, flagged, nullness, ColumnHead, new_column_fields}
use Rattle.text.specs.Lines.{nth_field, field, fields_from}
use Rattle.text.specs.Numbers.{is_name}
use Rattle.text.specs.Fields.{field-named, field-unnamed}
use Rattle.text.specs.Reading.{field_of, rest-whole}
use Rattle.text.specs.declared.Line.{Line}
use Rattle.text.specs.declared.places.Place as places
use Rattle.read_expression.specs.Reading.{here, LineAt}
use Rattle.entries.specs.Entries.{EntryHead, column_head, fields_of}
use Rattle.entries.specs.HeadFields.{NameIs, HeadIs, HeadIsHere, no_name, name-is, head-is-as}
use Rattle.entries.specs.ColumnWords.{words_by, words_head, named, column_said}
use Rattle.entries.specs.HeadRecords.{field_at, without}
use Rattle.entries.specs.declared.Head.{Head}

unfoldable named_by : Option Word → Option EntryHead → Option (Option Word) → Option EntryHead
named_by n h x = do
  name' ← n
  words' ← h
  reference' ← x
  some (named name' words' reference')

unfoldable column_by : Option Word → Option Datatype → Option Bool → Option (Option Bool) → Option Bool → Option Bool → Option Bool → Option (Option Word) → Option ColumnHead
column_by n t k u q i d x = do
  name' ← n
  type' ← t
  key' ← k
  nullable' ← u
  unique' ← q
  index' ← i
  default' ← d
  reference' ← x
  some (record { name = name'; type = type'; key = key'; nullable = nullable'; unique = unique'; index = index'; default = default'; reference = reference' })

column-by : (n : Option Word) (t : Option Datatype) (k : Option Bool) (u : Option (Option Bool)) (q i d : Option Bool) (x : Option (Option Word)) → map_option column_head (column_by n t k u q i d x) ≡ named_by n (words_by t k u q i d) x
unfolding map_option column_by named_by words_by named column_head ◌>>=◌
column-by none t k u q i d x = refl
column-by (some n) none k u q i d x = refl
column-by (some n) (some t) none u q i d x = refl
column-by (some n) (some t) (some k) none q i d x = refl
column-by (some n) (some t) (some k) (some u) none i d x = refl
column-by (some n) (some t) (some k) (some u) (some q) none d x = refl
column-by (some n) (some t) (some k) (some u) (some q) (some i) none x = refl
column-by (some n) (some t) (some k) (some u) (some q) (some i) (some d) none = refl
column-by (some n) (some t) (some k) (some u) (some q) (some i) (some d) (some x) = refl

module _ (w : ℕ → Word) (ws : List Word) where
  column-fields : fields_of 11 none (w 1 ∷ w 2 ∷ w 3 ∷ w 4 ∷ w 5 ∷ w 6 ∷ w 7 ∷ ws) ≡ named_by (name (w 1)) (words_head w) (optional_name ws)
  unfolding words_head fields_of new_column_fields column_by
  column-fields = column-by (name (w 1)) (word datatypes (w 2)) (flagged (bytes "pk") (w 3)) (word nullness (w 4)) (flagged (bytes "unique") (w 5)) (flagged (bytes "index") (w 6)) (flagged (bytes "default") (w 7)) (optional_name ws)

-- without a name, words or a reference that fits there is no column
nameless : (h : Option EntryHead) (x : Option (Option Word)) → named_by none h x ≡ none
unfolding named_by ◌>>=◌
nameless h x = refl

no-reference : (n : Option Word) (h : Option EntryHead) → named_by n h none ≡ none
unfolding named_by ◌>>=◌
no-reference none h = refl
no-reference (some n) none = refl
no-reference (some n) (some h) = refl

named-all : (n : Word) (h : Option EntryHead) (x : Option Word) → named_by (some n) h (some x) ≡ map_option (λ (k : EntryHead). named n k x) h
unfolding named_by map_option ◌>>=◌
named-all n none x = refl
named-all n (some h) x = refl

column-not : (ws : List Word) → (length ws ≡ 7 → ⊥) → (length ws ≡ 8 → ⊥) → fields_of 11 none ws ≡ none
unfolding fields_of new_column_fields map_option column_by optional_name ◌>>=◌
column-not [] h g = refl
column-not (a ∷ []) h g = refl
column-not (a ∷ (b ∷ [])) h g = refl
column-not (a ∷ (b ∷ (c ∷ []))) h g = refl
column-not (a ∷ (b ∷ (c ∷ (d ∷ [])))) h g = refl
column-not (a ∷ (b ∷ (c ∷ (d ∷ (e ∷ []))))) h g = refl
column-not (a ∷ (b ∷ (c ∷ (d ∷ (e ∷ (f ∷ [])))))) h g = refl
column-not (a ∷ (b ∷ (c ∷ (d ∷ (e ∷ (f ∷ (i ∷ []))))))) h g = absurd (h refl)
column-not (a ∷ (b ∷ (c ∷ (d ∷ (e ∷ (f ∷ (i ∷ (j ∷ [])))))))) h g = absurd (g refl)
column-not (a ∷ (b ∷ (c ∷ (d ∷ (e ∷ (f ∷ (i ∷ (j ∷ (k ∷ ws))))))))) h g =
    column-by (name a) (word datatypes b) (flagged (bytes "pk") c) (word nullness d) (flagged (bytes "unique") e) (flagged (bytes "index") f) (flagged (bytes "default") i) none
    ∙ no-reference (name a) (words_by (word datatypes b) (flagged (bytes "pk") c) (word nullness d) (flagged (bytes "unique") e) (flagged (bytes "index") f) (flagged (bytes "default") i))

-- THE RECORD
module _ (t : Bytes) (p : ℕ) (f : Line) (g₀ : LineAt t p f) where
  abbrev words : ℕ → Word
  words = field_of statement t f

  -- field i, and its place
  abbrev field_here : ℕ → Word
  field_here i = field most_bytes t (nth_field f.fields i).start (nth_field f.fields i).length

  abbrev place_here : ℕ → places.Place
  place_here i = record { address = most_bytes + (nth_field f.fields i).start; length = (nth_field f.fields i).length }

  -- the fields behind the first eight
  abbrev behind : ℕ → List Word
  behind j = fields_from most_bytes t f.fields 8 j

  rest-words : (j : ℕ) → fields_from (base_address statement) t f.fields 1 (7 + j) ≡ words 1 ∷ words 2 ∷ words 3 ∷ words 4 ∷ words 5 ∷ words 6 ∷ words 7 ∷ behind j
  unfolding fields_from field_of base_address
  rest-words j = let z : 7 + j ≡ suc (suc (suc (suc (suc (suc (suc j)))))) = omega arith in rw z

  column-rest : (j : ℕ) → f.count ≡ 8 + j → j ≤ 1 → (l c k : ℕ) → fields_of 11 none (rest (here t p l c k)) ≡ named_by (name (words 1)) (words_head words) (optional_name (behind j))
  column-rest j e m l c k =
      let z : f.count - 1 ≡ 7 + j = omega arith in
      let w : rest (here t p l c k) ≡ words 1 ∷ words 2 ∷ words 3 ∷ words 4 ∷ words 5 ∷ words 6 ∷ words 7 ∷ behind j = rest-whole statement t p l c k f g₀.fields (omega arith) ∙ rw z (rest-words j) in
      ap (fields_of 11 none) w ∙ column-fields words (behind j)

  first-yes : 8 ≤ f.count → is_name (nth_field f.fields 1).length ≡ true → name (words 1) ≡ some (field_here 1)
  unfolding field_of base_address
  first-yes n h = field-named t _ _ (field_at t p f g₀ 1 (omega (arith, n))) h

  first-no : 8 ≤ f.count → is_name (nth_field f.fields 1).length ≡ false → name (words 1) ≡ none
  unfolding field_of base_address
  first-no n h = field-unnamed t _ _ (field_at t p f g₀ 1 (omega (arith, n))) h

  reference-none : optional_name (behind 0) ≡ some none
  unfolding fields_from optional_name
  reference-none = refl

  reference-yes : f.count ≡ 9 → is_name (nth_field f.fields 8).length ≡ true → optional_name (behind 1) ≡ some (some (field_here 8))
  unfolding fields_from optional_name map_option
  reference-yes n h = rw (field-named t _ _ (field_at t p f g₀ 8 (omega (arith, n))) h)

  reference-no : f.count ≡ 9 → is_name (nth_field f.fields 8).length ≡ false → optional_name (behind 1) ≡ none
  unfolding fields_from optional_name map_option
  reference-no n h = rw (field-unnamed t _ _ (field_at t p f g₀ 8 (omega (arith, n))) h)

  module _ (r : std.Option Head) where
    pub column-count : (f.count ≡ 8 → ⊥) → (f.count ≡ 9 → ⊥) → r ≡ None → HeadIsHere t p (fields_of 11 none) r
    column-count n m s = without t p f g₀ r (fields_of 11 none) 7 8 (omega arith) (omega arith) n m column-not s

    column-as : (o : Option EntryHead) (j : ℕ) → f.count ≡ 8 + j → j ≤ 1 → named_by (name (words 1)) (words_head words) (optional_name (behind j)) ≡ o → HeadIs t o r → HeadIsHere t p (fields_of 11 none) r
    unfolding HeadIsHere
    column-as o j e m d s l c k = head-is-as t _ o r (column-rest j e m l c k ∙ d) s

    column-none : 8 ≤ f.count → f.count ≤ 9 → ((j : ℕ) → named_by (name (words 1)) (words_head words) (optional_name (behind j)) ≡ none) → r ≡ None → HeadIsHere t p (fields_of 11 none) r
    unfolding HeadIs
    column-none n m d s = column-as none (f.count - 8) (omega (arith, n)) (omega (arith, m)) (d (f.count - 8)) s

    pub column-name-no : 8 ≤ f.count → f.count ≤ 9 → is_name (nth_field f.fields 1).length ≡ false → r ≡ None → HeadIsHere t p (fields_of 11 none) r
    column-name-no n m h s = column-none n m (λ j. rw (first-no n h) (nameless (words_head words) (optional_name (behind j)))) s

    pub column-reference-no : f.count ≡ 9 → is_name (nth_field f.fields 8).length ≡ false → r ≡ None → HeadIsHere t p (fields_of 11 none) r
    unfolding HeadIs
    column-reference-no n h s = column-as none 1 (omega (arith, n)) (omega arith) (rw (reference-no n h) (no-reference (name (words 1)) (words_head words))) s

    -- a column by its name and its reference
    module _ (n : 8 ≤ f.count) (h : is_name (nth_field f.fields 1).length ≡ true) {p₁ : places.Place} (e₁ : p₁ ≡ place_here 1)
        {o : std.Option places.Place} (s : (w : Word) (x : Option Word) → NameIs t (some w) (Some p₁) → NameIs t x o → HeadIs t (column_said w words x) r) where
      column-named : (x : Option Word) (j : ℕ) → f.count ≡ 8 + j → j ≤ 1 → optional_name (behind j) ≡ some x → NameIs t x o → HeadIsHere t p (fields_of 11 none) r
      unfolding column_said
      column-named x j e m g q =
          column-as _ j e m (rw (first-yes n h, g) (named-all (field_here 1) (words_head words) x))
          (s (field_here 1) x (rw e₁ (name-is t _ _ (field_at t p f g₀ 1 (omega (arith, n))) h)) q)

      pub column-plain : f.count ≡ 8 → o ≡ None → HeadIsHere t p (fields_of 11 none) r
      column-plain e z = column-named none 0 (omega (arith, e)) (omega arith) reference-none (rw z (no_name t))

      pub column-refers : {p₂ : places.Place} → f.count ≡ 9 → is_name (nth_field f.fields 8).length ≡ true → p₂ ≡ place_here 8 → o ≡ Some p₂ → HeadIsHere t p (fields_of 11 none) r
      column-refers e i e₂ z = column-named _ 1 (omega (arith, e)) (omega arith) (reference-yes e i) (rw (z, e₂) (name-is t _ _ (field_at t p f g₀ 8 (omega (arith, e))) i))
