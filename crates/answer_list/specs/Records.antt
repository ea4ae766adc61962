-- The records of the fixed list: a line `case` with three byte counts, then so many bytes of a catalog, of a statement and of
-- the text that is printed of them.
use Prim.Native.Nat.{ℕ, zero, suc, ◌+◌, ◌-◌, ◌≤◌, ◌<◌, min}
use Rattle.std.proofs.Common.{sym, ◌∙◌, le-leb, leb-true}
use Rattle.std.specs.Prelude.{◌≡◌, Bool, List, [], ◌∷◌, leb, length, take, drop, Some, None}
use Rattle.std.specs.declared.option.Option as Rust
use Rattle.std.proofs.Math.Path.{refl, ap}
use Rattle.std.proofs.Math.Bool.{true, false}
use Rattle.std.proofs.Math.Option.{Option, none, some}
use Rattle.std.proofs.lemmas.Bool.{lt-leb}
use Rattle.std.proofs.lemmas.Option.{none-some}
use Rattle.rules.specs.Lists.{Bytes, same, map_option}
use Rattle.rules.specs.Lines.{bytes, decimal}
use Rattle.rules.specs.Lines as rules
use Rattle.text.specs.Lines.{nth_field, line_end, field, fields_from, line_of, kept_fields, Fields}
use Rattle.text.specs.declared.Field.{Field}
use Rattle.text.specs.declared.Line.{Line}
use Rattle.answer_list.specs.declared.Record.{Record}

-- a count: the largest number of 64 bits stands for all above it
unfoldable pub count : Bytes → Option ℕ
count b = map_option (min 18446744073709551615) (decimal b)

unfoldable pub three : Bool → Option ℕ → Option ℕ → Option ℕ → Option (ℕ × ℕ × ℕ)
three false x y z = none
three true none y z = none
three true (some a) none z = none
three true (some a) (some b) none = none
three true (some a) (some b) (some d) = some (a, b, d)

-- the three counts of a record's line
unfoldable pub counts : rules.Line → Option (ℕ × ℕ × ℕ)
counts [] = none
counts (k ∷ []) = none
counts (k ∷ (x ∷ [])) = none
counts (k ∷ (x ∷ (y ∷ []))) = none
counts (k ∷ (x ∷ (y ∷ (z ∷ [])))) = three (same k.bytes (bytes "case")) (count x.bytes) (count y.bytes) (count z.bytes)
counts (k ∷ (x ∷ (y ∷ (z ∷ (u ∷ us))))) = none

-- a record with these counts, its texts from e on, if the list t has as many bytes
unfoldable pub sized : Bytes → ℕ → Option (ℕ × ℕ × ℕ) → Rust.Option Record
sized t e none = None
sized t e (some n) = elim (leb (n.0 + n.1 + n.2) (length t - e)) [
  | true ↦ Some (record { start = e; catalog = n.0; statement = n.1; answer = n.2 })
  | false ↦ None
]

-- THE RECORD at p
unfoldable pub record_at : Bytes → ℕ → Rust.Option Record
record_at t p = sized t (line_end t p) (counts (take kept_fields (rules.fields (0 + p) (drop p t))))

pub fits : (t : Bytes) (e a b d : ℕ) → a + b + d ≤ length t - e
    → Some (record { start = e; catalog = a; statement = b; answer = d }) ≡ sized t e (some (a, b, d))
unfolding sized
fits t e a b d h = sym (rw (sized, le-leb (a + b + d) (length t - e) h))

pub too_long : (t : Bytes) (e a b d : ℕ) → length t - e < a + b + d → None ≡ sized t e (some (a, b, d))
unfolding sized
too_long t e a b d h = sym (rw (sized, lt-leb (a + b + d) (length t - e) h))

-- THE LINE
module _ (t : Bytes) (fs : List Field) where
  abbrev pub word : ℕ → Bytes
  word i = take (nth_field fs i).length (drop (nth_field fs i).start t)

  not-four : (n : ℕ) → (n ≡ 4 → ⊥) → counts (fields_from 0 t fs 0 n) ≡ none
  unfolding counts fields_from
  not-four zero h = refl
  not-four (suc zero) h = refl
  not-four (suc (suc zero)) h = refl
  not-four (suc (suc (suc zero))) h = refl
  not-four (suc (suc (suc (suc zero)))) h = absurd (h refl)
  not-four (suc (suc (suc (suc (suc n))))) h = refl

  four : (n : ℕ) → n ≡ 4
      → counts (fields_from 0 t fs 0 n) ≡ three (same (word 0) (bytes "case")) (count (word 1)) (count (word 2)) (count (word 3))
  unfolding counts fields_from field
  four n e = rw e

module _ (t : Bytes) (p : ℕ) (r : Line) (f : Fields t p r) where
  record-line : sized t r.next (counts (fields_from 0 t r.fields 0 r.count)) ≡ record_at t p
  unfolding record_at line_of
  record-line = rw f.next (ap (λ l. sized t (line_end t p) (counts l)) (f.fields 0))

  pub other-line : (r.count ≡ 4 → ⊥) → None ≡ record_at t p
  unfolding sized
  other-line h = ap (sized t r.next) (sym (not-four t r.fields r.count h)) ∙ record-line

  module _ (n : r.count ≡ 4) where
    pub record-four : (k : Bool) (x y z : Option ℕ) → k ≡ same (word t r.fields 0) (bytes "case")
        → x ≡ count (word t r.fields 1) → y ≡ count (word t r.fields 2)
        → z ≡ count (word t r.fields 3) → sized t r.next (three k x y z) ≡ record_at t p
    record-four k x y z e g h i =
        ap (sized t r.next) (rw (e, g, h, i) (sym (four t r.fields r.count n))) ∙ record-line

    module _ (k : Bool) (e : k ≡ same (word t r.fields 0) (bytes "case")) where
      pub other_word : k ≡ false → None ≡ record_at t p
      unfolding sized three
      other_word o = record-four false _ _ _ (sym o ∙ e) refl refl refl

      module _ (o : k ≡ true) where
        pub no-first : none ≡ count (word t r.fields 1) → None ≡ record_at t p
        unfolding sized three
        no-first g = record-four true none _ _ (sym o ∙ e) g refl refl

        module _ (a : ℕ) (g : some a ≡ count (word t r.fields 1)) where
          pub no_second : none ≡ count (word t r.fields 2) → None ≡ record_at t p
          unfolding sized three
          no_second h = record-four true (some a) none _ (sym o ∙ e) g h refl

          module _ (b : ℕ) (h : some b ≡ count (word t r.fields 2)) where
            pub no_third : none ≡ count (word t r.fields 3) → None ≡ record_at t p
            unfolding sized three
            no_third i = record-four true (some a) (some b) none (sym o ∙ e) g h i

            pub counted : (d : ℕ) → some d ≡ count (word t r.fields 3) → sized t r.next (some (a, b, d)) ≡ record_at t p
            unfolding three
            counted d i = record-four true (some a) (some b) (some d) (sym o ∙ e) g h i

-- WHERE IT LIES
-- its texts start behind its line, and the list has them whole
pub record-inside : (t : Bytes) (p : ℕ) (r : Record) → record_at t p ≡ Some r
    → (r.start ≡ line_end t p) × (r.catalog + r.statement + r.answer ≤ length t - r.start)
unfolding record_at sized
record-inside t p r h = sizes (counts (take kept_fields (rules.fields (0 + p) (drop p t)))) h
  where
    sizes : (o : Option (ℕ × ℕ × ℕ)) → sized t (line_end t p) o ≡ Some r
        → (r.start ≡ line_end t p) × (r.catalog + r.statement + r.answer ≤ length t - r.start)
    sizes none h = absurd (none-some r h)
    sizes (some n) h = go (leb (n.0 + n.1 + n.2) (length t - line_end t p)) refl h
      where
        made : Record
        made = record { start = line_end t p; catalog = n.0; statement = n.1; answer = n.2 }

        go : (k : Bool) → leb (n.0 + n.1 + n.2) (length t - line_end t p) ≡ k
            → elim k [ true ↦ Some made | false ↦ None ] ≡ Some r
            → (r.start ≡ line_end t p) × (r.catalog + r.statement + r.answer ≤ length t - r.start)
        go true l h =
            let e : made ≡ r = cc in
            rw (← e) (refl, leb-true (n.0 + n.1 + n.2) (length t - line_end t p) l)
        go false l h = absurd (none-some r h)
