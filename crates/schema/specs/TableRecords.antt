-- The table's record, field by field, and the names that the tables before it have.
use Rattle.std.specs.Prelude.{ℕ, zero, suc, ◌+◌, ◌≤◌, ◌<◌, ◌≡◌, refl, Bool, true, false, List, [], ◌∷◌, get_or, take, drop, Some, None}
use Rattle.std.specs.Prelude as std
use Rattle.std.proofs.Math.Decide.{dec_lt}
use native.Mathlib.Omega.{arith}
use Rattle.std.proofs.Math.Path.{sym, ap}
use Rattle.std.proofs.Common.{◌∙◌}
use Rattle.std.proofs.Math.Option.{Option, none, some}
use Rattle.rules.specs.Refusals.{catalog}
use Rattle.rules.specs.Lists.{Bytes, same, any}
use Rattle.rules.specs.Lines.{Word, bytes}
use Rattle.rules.specs.Reader.{rest, name, count_field, both, two_fields}
use Rattle.rules.specs.ReadCatalog.{table_fields}
use Rattle.rules.specs.Places.{bytes_at, word_at}
use Rattle.text.specs.declared.Line.{Line}
use Rattle.text.specs.Lines.{nth_field, Fields, field}
use Rattle.text.specs.Numbers.{is_name}
use Rattle.text.specs.Reading.{field_of, at-is, rest-two, rest-other, name-yes, name-no}
use Rattle.text.specs.Order.{same-swap}
use Rattle.text.specs.Records.{two_fields_lem}
use Rattle.schema.specs.Layout.{table_start}
use Rattle.schema.specs.Search.{table_named, FirstTable}
use Rattle.schema.specs.Records.{Position, here, names, table_here, table_said, TableEnds, TableLine, field-here, field-most}

-- TABLE NAMES
-- whether one of the first n tables has the name x
module _ (t : Bytes) (s : List ℕ) (x : Bytes) where
  names-hit : (n i : ℕ) → i < n → table_named t t s x i ≡ true → any (same x) (names t s n) ≡ true
  unfolding names any table_named
  names-hit zero i l e = absurd (omega arith)
  names-hit (suc n) i l e = elim (dec_lt i n) [
    | yes p ↦ go (same x (bytes_at t t (get_or s (table_start n) 0) (get_or s (table_start n + 1) 0))) (names-hit n i p e)
    | no p ↦ let z : i ≡ n = omega (arith, l, p) in rw (← z, any, same-swap x _, e)
  ]
    where
      go : (b : Bool) → any (same x) (names t s n) ≡ true → elim b [ true ↦ true | false ↦ any (same x) (names t s n) ] ≡ true
      go true h = refl
      go false h = h

  names-miss : (n : ℕ) → ((k : ℕ) → 0 ≤ k → k < n → table_named t t s x k ≡ false) → any (same x) (names t s n) ≡ false
  unfolding names any table_named
  names-miss zero h = refl
  names-miss (suc n) h = rw (any, same-swap x _, h n (omega arith) (omega arith)) (names-miss n (λ k a b. h k a (omega arith)))

  pub taken-is : (n : ℕ) (r : std.Option ℕ) → FirstTable t t s x n r → std.is_some r ≡ any (same x) (names t s n)
  taken-is n None h = sym (names-miss n h)
  taken-is n (Some i) h = sym (names-hit n i h.1 h.2)

-- THE TABLE'S LINE
module _ (ns : List Bytes) (r : List Word) where
  fields-none : two_fields name count_field r ≡ none → table_fields ns r ≡ none
  unfolding table_fields
  fields-none e = rw (table_fields, e)

  fields-taken : (w : Word) (k : ℕ) → two_fields name count_field r ≡ some (w, k) → any (same w.bytes) ns ≡ true → table_fields ns r ≡ none
  unfolding table_fields
  fields-taken w k e h = rw (table_fields, e, h)

  fields-some : (w : Word) (k : ℕ) → two_fields name count_field r ≡ some (w, k) → any (same w.bytes) ns ≡ false → table_fields ns r ≡ some (w, k)
  unfolding table_fields
  fields-some w k e h = rw (table_fields, e, h)

module _ (w v : Word) where
  two-name-no : name w ≡ none → two_fields name count_field (w ∷ v ∷ []) ≡ none
  unfolding two_fields both
  two-name-no e = rw e

  two-count-no : name w ≡ some w → count_field v ≡ none → two_fields name count_field (w ∷ v ∷ []) ≡ none
  unfolding two_fields both
  two-count-no e f = rw (e, f)

  two-yes : (k : ℕ) → name w ≡ some w → count_field v ≡ some k → two_fields name count_field (w ∷ v ∷ []) ≡ some (w, k)
  unfolding two_fields both
  two-yes k e f = rw (e, f)

module _ (t : Bytes) (s : List ℕ) (n p : ℕ) (f : Line) (g : Fields t p f) {b : Bool} (key : b ≡ same (take (nth_field f.fields 0).length (drop (nth_field f.fields 0).start t)) (bytes "table")) where
  pub table-missing : b ≡ false → TableLine t s n p None
  unfolding table_said TableEnds table_here
  table-missing e = record { says = λ q l. sym (rw (table_here, at-is catalog t p l 0 0 f g (bytes "table"), ← key, e)); next = tt }

  module _ (e : b ≡ true) where
    table_here_lem : (l : ℕ) → table_here (names t s n) (here t p l) ≡ table_fields (names t s n) (rest (here t p l))
    unfolding table_here
    table_here_lem l = rw (table_here, at-is catalog t p l 0 0 f g (bytes "table"), ← key, e)

    table-wrong : ((l : ℕ) → two_fields name count_field (rest (here t p l)) ≡ none) → TableLine t s n p None
    unfolding table_said TableEnds
    table-wrong h = record { says = λ q l. sym (table_here_lem l ∙ fields-none _ _ (h l)); next = tt }

    pub table-count : (f.count ≡ 3 → ⊥) → TableLine t s n p None
    table-count h = table-wrong (λ l. two_fields_lem name count_field (rest (here t p l)) (rest-other catalog t p l 0 0 f g 2 (omega arith) h))

    module _ (m : f.count ≡ 3) where
      table-fields : (l : ℕ) (o : Option (Word × ℕ)) → two_fields name count_field (field_of catalog t f 1 ∷ field_of catalog t f 2 ∷ []) ≡ o → two_fields name count_field (rest (here t p l)) ≡ o
      table-fields l o h = ap (two_fields name count_field) (rest-two catalog t p l 0 0 f g m) ∙ h

      pub table-name : is_name (nth_field f.fields 1).length ≡ false → TableLine t s n p None
      table-name h = table-wrong (λ l. table-fields l none (two-name-no _ _ (name-no catalog t p l 0 0 f g 1 (omega arith) h)))

      module _ (h : is_name (nth_field f.fields 1).length ≡ true) where
        table-named : (l : ℕ) → name (field_of catalog t f 1) ≡ some (field_of catalog t f 1)
        table-named l = name-yes catalog t p l 0 0 f g 1 (omega arith) h

        counted : (v : Option ℕ) → ((o : ℕ) → v ≡ count_field (record { bytes = take (nth_field f.fields 2).length (drop (nth_field f.fields 2).start t); start = o })) → count_field (field_of catalog t f 2) ≡ v
        unfolding field_of field
        counted v e = sym (e _)

        pub table-key : ((o : ℕ) → none ≡ count_field (record { bytes = take (nth_field f.fields 2).length (drop (nth_field f.fields 2).start t); start = o })) → TableLine t s n p None
        table-key z = table-wrong (λ l. table-fields l none (two-count-no _ _ (table-named l) (counted none z)))

        module _ {k : ℕ} (z : (o : ℕ) → some k ≡ count_field (record { bytes = take (nth_field f.fields 2).length (drop (nth_field f.fields 2).start t); start = o })) (w : Position t p) {x : Bool} (ex : x ≡ any (same (bytes_at t t (nth_field f.fields 1).start (nth_field f.fields 1).length)) (names t s n)) where
          table-first : (q : Bytes) (l : ℕ) → field_of catalog t f 1 ≡ word_at t q (nth_field f.fields 1).start (nth_field f.fields 1).length
          unfolding field_of
          table-first q l = field-here t q _ _ (field-most t p f g w 1 (omega arith))

          table-both : (l : ℕ) → two_fields name count_field (rest (here t p l)) ≡ some (field_of catalog t f 1, k)
          table-both l = table-fields l _ (two-yes _ _ k (table-named l) (counted (some k) z))

          table-any : (l : ℕ) → any (same (field_of catalog t f 1).bytes) (names t s n) ≡ x
          unfolding word_at
          table-any l = ap (λ y. any (same y.bytes) (names t s n)) (table-first t l) ∙ sym ex

          pub table_taken : x ≡ true → TableLine t s n p None
          unfolding table_said TableEnds
          table_taken y = record { says = λ q l. sym (table_here_lem l ∙ fields-taken _ _ _ _ (table-both l) (table-any l ∙ y)); next = tt }

          pub table-right : x ≡ false → TableLine t s n p (Some (record { name = record { address = (nth_field f.fields 1).start; length = (nth_field f.fields 1).length }; key = k; next = f.next }))
          unfolding table_said TableEnds
          table-right y = record {
            says = λ q l. sym (table_here_lem l ∙ fields-some _ _ _ _ (table-both l) (table-any l ∙ y) ∙ ap (λ v. some (v, k)) (table-first q l));
            next = g.next;
          }
