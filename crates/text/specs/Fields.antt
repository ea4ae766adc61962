-- Fields that lie inside a text of at most 65,536 bytes.
use Rattle.std.specs.Prelude.{ℕ, ◌+◌, ◌≤◌, ◌<◌, ◌≡◌, true, false, length, take, drop}
use Rattle.std.proofs.Common.{arith, ap, ◌∙◌}
use Rattle.std.proofs.Math.Option.{none, some}
use Rattle.rules.specs.Limits.{most_bytes}
use Rattle.rules.specs.Lists.{Bytes}
use Rattle.rules.specs.Refusals.{Text, catalog}
use Rattle.rules.specs.Reader.{base_address, name}
use Rattle.rules.specs.Places.{word_at}
use Rattle.text.specs.Bytes.{part_length}
use Rattle.text.specs.Lines.{nth_field, field, Fields}
use Rattle.text.specs.Numbers.{is_name, name_in, name_out}
use Rattle.text.specs.Reading.{text_of, field-word, field-inside}
use Rattle.text.specs.declared.Line.{Line}

-- the n bytes at a lie inside a text of at most 65,536 bytes
pub record Inside (t : Bytes) (a n : ℕ) : Type 0 where
  pub short : length t ≤ most_bytes
  pub inside : a + n ≤ length t

module _ (t : Bytes) (a n : ℕ) (i : Inside t a n) where
  pub field-length : length (take n (drop a t)) ≡ n
  field-length = part_length t a n (omega (arith, i.inside))

  -- a field is the word at its address
  pub field_at : (k : Text) (c q : Bytes) → text_of k c q ≡ t → field (base_address k) t a n ≡ word_at c q (base_address k + a) n
  field_at k c q e =
      let h : a + n ≤ most_bytes = omega (arith, i.inside, i.short) in
      rw (← e) (field-word k c q a n h)

  -- and a name, or none, by its length
  pub field-named : is_name n ≡ true → name (field most_bytes t a n) ≡ some (field most_bytes t a n)
  unfolding field
  field-named h = name_in _ (ap is_name field-length ∙ h)

  pub field-unnamed : is_name n ≡ false → name (field most_bytes t a n) ≡ none
  unfolding field
  field-unnamed h = name_out _ (ap is_name field-length ∙ h)

-- the i-th field of the line at p
pub inside-field : (t : Bytes) (p : ℕ) (r : Line) → Fields t p r → (i : ℕ) → length t ≤ most_bytes → p ≤ length t → i < r.count → Inside t (nth_field r.fields i).start (nth_field r.fields i).length
inside-field t p r f i h g k = record { short = h; inside = field-inside catalog t p 0 0 0 r f i g k }
