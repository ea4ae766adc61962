-- What a record says, by its keyword and its fields.
use Prim.Native.Nat.{ℕ, ◌+◌}
use Rattle.std.proofs.Common.{arith}
use Rattle.std.proofs.Math.Path.{◌≡◌, sym}
use Rattle.std.specs.Prelude.{refl, true, false, [], ◌∷◌, Some}
use Rattle.std.proofs.Math.Option.{none, some}
use Rattle.rules.specs.Limits.{most_bytes}
use Rattle.rules.specs.Lists.{Bytes, map_option}
use Rattle.rules.specs.Lines.{Word}
use Rattle.rules.specs.Reader.{base_address, both, two_fields, count_field}
use Rattle.rules.specs.ReadExpression.{column_fields, call_fields}
use Rattle.text.specs.Lines.{field}
use Rattle.text.specs.Reading.{text_of}
use Rattle.text.specs.Fields.{Inside, field-length, field_at, field-named, field-unnamed}
use Rattle.rules.specs.Refusals.{statement}
use Rattle.text.specs.Numbers.{is_name, count_small}
use Rattle.numbers.specs.Values.{WordFits}
use Rattle.read_expression.specs.declared.heads.Row.{Row}
use Rattle.read_expression.specs.Encode.{head_numbers, arity}
use Rattle.read_expression.specs.Fits.{ColumnFits, HeadFits}
use Rattle.read_expression.specs.RowOf.{numbers_of, RowSays, RowOf}

-- FIELDS
module _ (t : Bytes) (a n : ℕ) (i : Inside t a n) where
  pub field_fits : (c : Bytes) → WordFits c t (field most_bytes t a n)
  unfolding WordFits field text_of base_address
  field_fits c = rw (field-length t a n i) (sym (field_at t a n i statement c t refl))

  -- names
  pub column-none : is_name n ≡ false → column_fields (field most_bytes t a n ∷ []) ≡ none
  unfolding column_fields map_option
  column-none h = rw (field-unnamed t a n i h)

  pub column-some : (r : Row) → is_name n ≡ true → numbers_of r ≡ 2 ∷ 0 ∷ (most_bytes + a) ∷ n ∷ 0 ∷ 0 ∷ [] → r.operands ≡ 0 → RowOf t (column_fields (field most_bytes t a n ∷ [])) (Some r)
  unfolding RowSays column_fields map_option
  column-some r h e o = record {
    says = rw (field-named t a n i h) (record {
      is = unfold head_numbers field in rw (field-length t a n i) (sym e);
      many = unfold arity in o;
      small = omega arith;
      fits = λ c. unfold HeadFits ColumnFits in field_fits c;
    });
  }

  module _ (w : Word) where
    pub call-unnamed : is_name n ≡ false → call_fields (field most_bytes t a n ∷ w ∷ []) ≡ none
    unfolding call_fields two_fields both map_option
    call-unnamed h = rw (field-unnamed t a n i h)

    pub call-uncounted : is_name n ≡ true → none ≡ count_field w → call_fields (field most_bytes t a n ∷ w ∷ []) ≡ none
    unfolding call_fields two_fields both map_option
    call-uncounted h g = rw (field-named t a n i h, ← g)

    pub call-some : (k : ℕ) (r : Row) → is_name n ≡ true → some k ≡ count_field w
        → numbers_of r ≡ 4 ∷ k ∷ (most_bytes + a) ∷ n ∷ 0 ∷ 0 ∷ [] → r.operands ≡ k → RowOf t (call_fields (field most_bytes t a n ∷ w ∷ [])) (Some r)
    unfolding RowSays call_fields two_fields both map_option
    call-some k r h g e o = record {
      says = rw (field-named t a n i h, ← g) (record {
        is = unfold head_numbers field in rw (field-length t a n i) (sym e);
        many = unfold arity in o;
        small = omega (arith, count_small _ k g);
        fits = λ c. unfold HeadFits in field_fits c;
      });
    }

module _ (t : Bytes) (a n b m : ℕ) (i : Inside t a n) (j : Inside t b m) where
  pub qualified-first : is_name n ≡ false → column_fields (field most_bytes t a n ∷ field most_bytes t b m ∷ []) ≡ none
  unfolding column_fields map_option both
  qualified-first h = rw (field-unnamed t a n i h)

  pub qualified-second : is_name n ≡ true → is_name m ≡ false → column_fields (field most_bytes t a n ∷ field most_bytes t b m ∷ []) ≡ none
  unfolding column_fields map_option both
  qualified-second h g = rw (field-named t a n i h, field-unnamed t b m j g)

  pub qualified-some : (r : Row) → is_name n ≡ true → is_name m ≡ true → numbers_of r ≡ 3 ∷ 0 ∷ (most_bytes + b) ∷ m ∷ (most_bytes + a) ∷ n ∷ [] → r.operands ≡ 0
      → RowOf t (column_fields (field most_bytes t a n ∷ field most_bytes t b m ∷ [])) (Some r)
  unfolding RowSays column_fields map_option both
  qualified-some r h g e o = record {
    says = rw (field-named t a n i h, field-named t b m j g) (record {
      is = unfold head_numbers field in rw (field-length t a n i, field-length t b m j) (sym e);
      many = unfold arity in o;
      small = omega arith;
      fits = λ c. unfold HeadFits ColumnFits in (field_fits t a n i c, field_fits t b m j c);
    });
  }
