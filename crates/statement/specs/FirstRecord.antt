-- A statement's first record: its kind, its name's place and its flag.
use Prim.Native.Nat.{ℕ, suc, ◌+◌, ◌≤◌, ◌<◌}
use Rattle.std.proofs.Common.{arith, sym, ◌∙◌, inl, inr}
use Rattle.std.specs.Prelude.{◌≡◌, Bool, true, false, List, [], ◌∷◌, ◌⊎◌, length, get_or, take, drop, Some, None}
use Rattle.std.specs.Prelude as std
use Rattle.std.proofs.Math.Path.{ap}
use Rattle.std.proofs.Math.Option.{Option, none, some}
use Rattle.rules.specs.Limits.{most_bytes}
use Rattle.rules.specs.Refusals.{statement}
use Rattle.rules.specs.Lists.{Bytes, named, map_option}
use Rattle.rules.specs.Lines.{Word}
use Rattle.rules.specs.Places.{word_at}
use Rattle.rules.specs.Reader.{base_address, line_here, key, rest, rest_of, one_of, apply, name, word, no_field, one_field, two_fields, both}
use Rattle.rules.specs.ReadStatement.{answers, StatementHead, select_head, other_head, delete_head, insert_head, update_head, create_head, drop_head, statement_heads}
use Rattle.text.specs.Lines.{nth_field, field, Fields}
use Rattle.numbers.specs.Options.{option_of}
use Rattle.text.specs.Numbers.{is_name}
use Rattle.text.specs.Reading.{text_of, field-word, key-is, rest-none, rest-other, with-one, with-two, field-inside}
use Rattle.text.specs.Records.{no-field, one_field_lem, two_fields_lem}
use Rattle.text.specs.declared.Line.{Line}
use Rattle.text.specs.Fields.{Inside, field-named, field-unnamed}
use Rattle.numbers.specs.Codes.{coded}
use Rattle.read_expression.specs.Reading.{here}
use Rattle.statement.specs.Kinds.{number_of}
use Rattle.statement.specs.Access.{name_or}
use Rattle.statement.specs.declared.access.Kind.{Kind}
use Rattle.statement.specs.declared.access.Kind.TheVariants as K
use Rattle.text.specs.declared.places.Place.{Place}
use Rattle.statement.specs.declared.first.First.{First}

-- the first record of a kind, with this name and flag where it has them
unfoldable pub head_of : ℕ → Word → Bool → StatementHead
head_of kind n y = coded other_head (select_head ∷ create_head n ∷ drop_head n y ∷ delete_head n ∷ insert_head n ∷ update_head n ∷ []) 1 kind

-- what it says, of the catalog c and the statement t
unfoldable pub first_said : Bytes → Bytes → std.Option First → Option StatementHead
first_said c t None = none
first_said c t (Some r) = some (head_of (number_of r.kind) (word_at c t (name_or r.name).address (name_or r.name).length) r.if_exists)

-- what the fields behind the keyword of a kind say
unfoldable pub said_by : Kind → List Word → Option StatementHead
said_by K.Select r = map_option (λ u. select_head) (no_field r)
said_by K.Create r = map_option create_head (one_field name r)
said_by K.Drop r = map_option (λ (q : Word × Bool). drop_head q.0 q.1) (two_fields name (word answers) r)
said_by K.Delete r = map_option delete_head (one_field name r)
said_by K.Insert r = map_option insert_head (one_field name r)
said_by K.Update r = map_option update_head (one_field name r)
said_by K.Other r = map_option (λ u. other_head) (no_field r)

-- a statement of one name
abbrev pub OneName : Kind → Type 0
OneName k = (k ≡ K.Delete) ⊎ ((k ≡ K.Insert) ⊎ ((k ≡ K.Update) ⊎ (k ≡ K.Create)))

-- NAMES
module _ (t : Bytes) (a n : ℕ) (i : Inside t a n) where
  -- the statements of one name
  pub named_none : (k : Kind) → OneName k → is_name n ≡ false → said_by k (field most_bytes t a n ∷ []) ≡ none
  unfolding said_by one_field map_option
  named_none k (inl e) h = rw (e, field-unnamed t a n i h)
  named_none k (inr (inl e)) h = rw (e, field-unnamed t a n i h)
  named_none k (inr (inr (inl e))) h = rw (e, field-unnamed t a n i h)
  named_none k (inr (inr (inr e))) h = rw (e, field-unnamed t a n i h)

  module _ (c : Bytes) (p : Place) (e : p ≡ record { address = most_bytes + a; length = n }) where
    word-is : word_at c t p.address p.length ≡ field most_bytes t a n
    unfolding text_of base_address
    word-is = rw e (sym (field-word statement c t a n (omega (arith, i.short, i.inside))))

    pub named_some : (k : Kind) → OneName k → is_name n ≡ true
        → first_said c t (Some (record { kind = k; name = Some p; if_exists = false })) ≡ said_by k (field most_bytes t a n ∷ [])
    unfolding first_said name_or head_of coded said_by one_field map_option
    named_some k (inl e) h = rw (e, word-is, field-named t a n i h)
    named_some k (inr (inl e)) h = rw (e, word-is, field-named t a n i h)
    named_some k (inr (inr (inl e))) h = rw (e, word-is, field-named t a n i h)
    named_some k (inr (inr (inr e))) h = rw (e, word-is, field-named t a n i h)

  -- `drop`
  module _ (w : Word) where
    pub drop-unnamed : is_name n ≡ false → said_by K.Drop (field most_bytes t a n ∷ w ∷ []) ≡ none
    unfolding said_by two_fields both map_option
    drop-unnamed h = rw (field-unnamed t a n i h)

    module _ (y : std.Option Bool) (e : option_of y ≡ word answers w) (h : is_name n ≡ true) where
      pub drop-unanswered : y ≡ None → said_by K.Drop (field most_bytes t a n ∷ w ∷ []) ≡ none
      unfolding said_by two_fields both map_option
      drop-unanswered l = rw (field-named t a n i h, ← e, l)

      pub drop-some : (c : Bytes) (p : Place) (d : Bool) → y ≡ Some d → p ≡ record { address = most_bytes + a; length = n }
          → first_said c t (Some (record { kind = K.Drop; name = Some p; if_exists = d })) ≡ said_by K.Drop (field most_bytes t a n ∷ w ∷ [])
      unfolding first_said name_or head_of coded said_by two_fields both map_option
      drop-some c p d l q = rw (word-is c p q, field-named t a n i h, ← e, l)

-- THE RECORD
named-not : (k : Kind) (r : List Word) → OneName k → (length r ≡ 1 → ⊥) → said_by k r ≡ none
unfolding said_by map_option
named-not k r (inl e) h = rw (e, one_field_lem name r h)
named-not k r (inr (inl e)) h = rw (e, one_field_lem name r h)
named-not k r (inr (inr (inl e))) h = rw (e, one_field_lem name r h)
named-not k r (inr (inr (inr e))) h = rw (e, one_field_lem name r h)

-- r is the text's first line
module _ (t : Bytes) (r : Line) (f : Fields t 0 r) where
  -- a field lies inside the text
  pub first-inside : (i : ℕ) → length t ≤ most_bytes → i < r.count → Inside t (nth_field r.fields i).start (nth_field r.fields i).length
  first-inside i s l = record { short = s; inside = field-inside statement t 0 1 0 0 r f i (omega arith) l }

  without : (i : ℕ) → suc i < 10 → (r.count ≡ suc i → ⊥) → length (rest (here t 0 1 0 0)) ≡ i → ⊥
  without = rest-other statement t 0 1 0 0 r f

  abbrev first_word : Bytes
  first_word = take (nth_field r.fields 0).length (drop (nth_field r.fields 0).start t)

  module _ {x : Bytes} (i : x ≡ first_word) where
    first-is : (o : Option (List Word → Option StatementHead)) → o ≡ named statement_heads x → one_of statement_heads (line_here (here t 0 1 0 0)) ≡ apply o (rest (here t 0 1 0 0))
    unfolding one_of key rest
    first-is o h = ap (λ z. apply z (rest_of (line_here (here t 0 1 0 0)))) (ap (named statement_heads) (key-is statement t 0 1 0 0 r f ∙ sym i) ∙ sym h)

    pub first-none : none ≡ named statement_heads x → one_of statement_heads (line_here (here t 0 1 0 0)) ≡ none
    unfolding apply
    first-none h = first-is none h

    module _ (k : Kind) (h : some (said_by k) ≡ named statement_heads x) where
      kind-is : one_of statement_heads (line_here (here t 0 1 0 0)) ≡ said_by k (rest (here t 0 1 0 0))
      unfolding apply
      kind-is = first-is _ h

      -- a statement with no name
      module _ (z : (k ≡ K.Select) ⊎ (k ≡ K.Other)) where
        pub first-plain : r.count ≡ 1 → (c : Bytes) → first_said c t (Some (record { kind = k; name = None; if_exists = false })) ≡ one_of statement_heads (line_here (here t 0 1 0 0))
        unfolding first_said head_of coded said_by no_field map_option
        first-plain m c = sym (kind-is ∙ rw (rest-none statement t 0 1 0 0 r f m) (elim z [ inl e ↦ rw e | inr e ↦ rw e ]))

        pub first-plain-not : (r.count ≡ 1 → ⊥) → one_of statement_heads (line_here (here t 0 1 0 0)) ≡ none
        unfolding said_by map_option
        first-plain-not m = kind-is ∙ elim z [ inl e ↦ rw (e, no-field _ (without 0 (omega arith) m)) | inr e ↦ rw (e, no-field _ (without 0 (omega arith) m)) ]

      pub first-drop : k ≡ K.Drop → r.count ≡ 3
          → one_of statement_heads (line_here (here t 0 1 0 0)) ≡ said_by K.Drop (field most_bytes t (nth_field r.fields 1).start (nth_field r.fields 1).length ∷ field most_bytes t (nth_field r.fields 2).start (nth_field r.fields 2).length ∷ [])
      first-drop z m = kind-is ∙ rw (z, with-two t 0 1 0 0 r f m)

      pub first-drop-not : k ≡ K.Drop → (r.count ≡ 3 → ⊥) → one_of statement_heads (line_here (here t 0 1 0 0)) ≡ none
      unfolding said_by map_option
      first-drop-not z m = kind-is ∙ rw (z, two_fields_lem name (word answers) _ (without 2 (omega arith) m))

      pub first-named : r.count ≡ 2 → one_of statement_heads (line_here (here t 0 1 0 0)) ≡ said_by k (field most_bytes t (nth_field r.fields 1).start (nth_field r.fields 1).length ∷ [])
      first-named m = kind-is ∙ ap (said_by k) (with-one t 0 1 0 0 r f m)

      pub first-named-not : OneName k → (r.count ≡ 2 → ⊥) → one_of statement_heads (line_here (here t 0 1 0 0)) ≡ none
      first-named-not o m = kind-is ∙ named-not k _ o (without 1 (omega arith) m)
