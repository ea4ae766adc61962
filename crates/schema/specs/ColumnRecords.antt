-- The column's record, field by field.
use Rattle.std.specs.Prelude.{ℕ, ◌≡◌, refl, Bool, true, false, List, [], ◌∷◌, length, take, drop, Ok, Err, Some, None}
use Rattle.std.proofs.Common.{arith, ◌∙◌}
use Rattle.std.proofs.Math.Path.{sym, ap}
use Rattle.std.proofs.Math.Option.{Option, none, some}
use Rattle.rules.specs.Refusals.{catalog}
use Rattle.rules.specs.Lists.{Bytes, same, named}
use Rattle.rules.specs.Lines.{Word, bytes}
use Rattle.rules.specs.Schema.{Datatype}
use Rattle.rules.specs.Reader.{rest, name, word}
use Rattle.rules.specs.ReadColumn.{column_fields, datatypes, nullables, ◌>>=◌}
use Rattle.rules.specs.Places.{word_at}
use Rattle.text.specs.declared.Line.{Line}
use Rattle.text.specs.Lines.{nth_field, Fields, field}
use Rattle.text.specs.Words.{words_of, push, keys, nth, named_by}
use Rattle.text.specs.Packed.{Packed, find_number, packed-word}
use Rattle.text.specs.Tables.{nullable-table}
use Rattle.text.specs.Numbers.{is_name}
use Rattle.text.specs.Reading.{field_of, at-is, rest-three, rest-other, name-yes, name-no}
use Rattle.numbers.specs.Datatypes.{type_of}
use Rattle.numbers.specs.declared.datatypes.DataType.{DataType}
use Rattle.schema.specs.Records.{Position, here, column_here, column_said, ColumnEnds, ColumnLine, field-here, field-most}
use Rattle.numbers.specs.declared.refusals.Reason.TheVariants.{WrongRecord}

-- THE FIELDS OF A COLUMN
three-fields : (r : List Word) → (length r ≡ 3 → ⊥) → column_fields r ≡ none
unfolding column_fields
three-fields [] h = refl
three-fields (n ∷ []) h = refl
three-fields (n ∷ (t ∷ [])) h = refl
three-fields (n ∷ (t ∷ (u ∷ []))) h = absurd (h refl)
three-fields (n ∷ (t ∷ (u ∷ (v ∷ r)))) h = refl

module _ (n t u : Word) where
  column-name-no : name n ≡ none → column_fields (n ∷ t ∷ u ∷ []) ≡ none
  unfolding column_fields ◌>>=◌
  column-name-no e = rw e

  column-type-no : name n ≡ some n → word datatypes t ≡ none → column_fields (n ∷ t ∷ u ∷ []) ≡ none
  unfolding column_fields ◌>>=◌
  column-type-no e f = rw (e, f)

  column-null-no : (d : Datatype) → name n ≡ some n → word datatypes t ≡ some d → word nullables u ≡ none → column_fields (n ∷ t ∷ u ∷ []) ≡ none
  unfolding column_fields ◌>>=◌
  column-null-no d e f g = rw (e, f, g)

  column-yes : (d : Datatype) (b : Bool) → name n ≡ some n → word datatypes t ≡ some d → word nullables u ≡ some b → column_fields (n ∷ t ∷ u ∷ []) ≡ some (n, d, b)
  unfolding column_fields ◌>>=◌
  column-yes d b e f g = rw (e, f, g)

-- its type and whether it may be null, by their words
module _ (t : Bytes) (f : Line) (i : ℕ) where
  type-as : {r : Option Datatype} → r ≡ named datatypes (take (nth_field f.fields i).length (drop (nth_field f.fields i).start t)) → word datatypes (field_of catalog t f i) ≡ r
  unfolding word field_of field
  type-as e = sym e

  null-as : {r : Option Bool} → r ≡ named nullables (take (nth_field f.fields i).length (drop (nth_field f.fields i).start t)) → word nullables (field_of catalog t f i) ≡ r
  unfolding word field_of field
  null-as e = sym e

-- THE COLUMN'S LINE
module _ (t : Bytes) (p line : ℕ) (f : Line) (g : Fields t p f) {b : Bool} (key : b ≡ same (take (nth_field f.fields 0).length (drop (nth_field f.fields 0).start t)) (bytes "column")) where
  pub column-missing : b ≡ false → ColumnLine t p line (Ok None)
  unfolding column_said ColumnEnds column_here
  column-missing e = record { says = λ q l. sym (rw (column_here, at-is catalog t p l 0 0 f g (bytes "column"), ← key, e)); next = tt }

  module _ (e : b ≡ true) where
    column-here : (l : ℕ) → column_here (here t p l) ≡ some (column_fields (rest (here t p l)))
    unfolding column_here
    column-here l = rw (column_here, at-is catalog t p l 0 0 f g (bytes "column"), ← key, e)

    column-wrong : ((l : ℕ) → column_fields (rest (here t p l)) ≡ none) → ColumnLine t p line (Err (record { reason = WrongRecord; line = line }))
    unfolding column_said ColumnEnds
    column-wrong h = record { says = λ q l. sym (column-here l ∙ ap some (h l)); next = refl }

    pub column-count : (f.count ≡ 4 → ⊥) → ColumnLine t p line (Err (record { reason = WrongRecord; line = line }))
    column-count h = column-wrong (λ l. three-fields (rest (here t p l)) (rest-other catalog t p l 0 0 f g 3 (omega arith) h))

    module _ (n : f.count ≡ 4) where
      column-fields : (l : ℕ) (o : Option (Word × Datatype × Bool)) → column_fields (field_of catalog t f 1 ∷ field_of catalog t f 2 ∷ field_of catalog t f 3 ∷ []) ≡ o → column_fields (rest (here t p l)) ≡ o
      column-fields l o h = ap column_fields (rest-three catalog t p l 0 0 f g n) ∙ h

      pub column-name : is_name (nth_field f.fields 1).length ≡ false → ColumnLine t p line (Err (record { reason = WrongRecord; line = line }))
      column-name h = column-wrong (λ l. column-fields l none (column-name-no _ _ _ (name-no catalog t p l 0 0 f g 1 (omega arith) h)))

      module _ (h : is_name (nth_field f.fields 1).length ≡ true) where
        named-as : (l : ℕ) → name (field_of catalog t f 1) ≡ some (field_of catalog t f 1)
        named-as l = name-yes catalog t p l 0 0 f g 1 (omega arith) h

        pub column-type : none ≡ named datatypes (take (nth_field f.fields 2).length (drop (nth_field f.fields 2).start t)) → ColumnLine t p line (Err (record { reason = WrongRecord; line = line }))
        column-type m = column-wrong (λ l. column-fields l none (column-type-no _ _ _ (named-as l) (type-as t f 2 m)))

        module _ (d : DataType) (m : some (type_of d) ≡ named datatypes (take (nth_field f.fields 2).length (drop (nth_field f.fields 2).start t))) where
          pub column-null : none ≡ named nullables (take (nth_field f.fields 3).length (drop (nth_field f.fields 3).start t)) → ColumnLine t p line (Err (record { reason = WrongRecord; line = line }))
          column-null v = column-wrong (λ l. column-fields l none (column-null-no _ _ _ _ (named-as l) (type-as t f 2 m) (null-as t f 3 v)))

          pub column-right : (b : Bool) → Position t p → some b ≡ named nullables (take (nth_field f.fields 3).length (drop (nth_field f.fields 3).start t))
              → ColumnLine t p line (Ok (Some (record { name = record { address = (nth_field f.fields 1).start; length = (nth_field f.fields 1).length }; datatype = d; nullable = b; next = f.next })))
          unfolding column_said ColumnEnds field_of
          column-right b w v = record {
            says = λ q l. sym (column-here l ∙ ap some (column-fields l _ (column-yes _ _ _ _ _ (named-as l) (type-as t f 2 m) (null-as t f 3 v)
                ∙ rw (first q l))));
            next = g.next;
          }
            where
              first : (q : Bytes) (l : ℕ) → field_of catalog t f 1 ≡ word_at t q (nth_field f.fields 1).start (nth_field f.fields 1).length
              first q l = field-here t q _ _ (field-most t p f g w 1 (omega arith))

-- THE WORDS BY THEIR NUMBERS
null-keys : keys nullables ≡ words_of (bytes "null notnull ")
unfolding keys nullables words_of bytes push
null-keys = refl

module _ {x : Bytes} {r : ℕ} (p : Packed x r) (k : ℕ) where
  pub null-packed : find_number (6114014574 ∷ 102576143142776686 ∷ []) r ≡ k → nth nullables k ≡ named nullables x
  unfolding bytes
  null-packed e = sym (named_by nullables _ x k null-keys (packed-word _ _ x r k nullable-table p e))
