-- Records by the number of their keyword and of their fields.
use Rattle.std.specs.Prelude.{ℕ, suc, ◌≤◌, ◌<◌, ◌≡◌, refl, Bool, true, false, List, [], ◌∷◌, ◌++◌, length, take, drop}
use Rattle.std.proofs.Common.{arith, ◌∙◌}
use Rattle.std.proofs.Math.Path.{ap}
use Rattle.std.proofs.Math.Option.{Option, none, some}
use Rattle.rules.specs.Limits.{most_bytes}
use Rattle.rules.specs.Refusals.{statement}
use Rattle.rules.specs.Lists.{Bytes, same, named, map_option}
use Rattle.rules.specs.Lines.{Word, bytes}
use Rattle.rules.specs.Schema.{Value}
use Rattle.rules.specs.Reader.{Place, key, rest, key_of, rest_of, line_here, apply, one_of, no_field, one_field, name, count_field, word, literals}
use Rattle.rules.specs.ReadExpression.{Head, star_head, value_head, operators, column_fields, call_fields, value_heads, heads}
use Rattle.text.specs.Lines.{nth_field, field, kept_fields, Fields}
use Rattle.text.specs.Words.{find, words_of, push, keys, nth, named_by, nth-none}
use Rattle.text.specs.Reading.{place, key-is, rest-none, rest-other, with-one, with-two}
use Rattle.text.specs.Records.{no-field, one_field_lem, two_fields_lem}
use Rattle.text.specs.declared.Line.{Line}

-- A TABLE AND ONE BEHIND IT
unfoldable before : {A : Type 0} → Option A → Option A → Option A
before none b = b
before (some a) b = some a

named-append : {A : Type 0} (xs ys : List (Bytes × A)) (k : Bytes) → named (xs ++ ys) k ≡ before (named xs k) (named ys k)
unfolding named before
named-append [] ys k = refl
named-append (x ∷ xs) ys k = go (same x.0 k) refl (named-append xs ys k)
  where
    go : (b : Bool) → same x.0 k ≡ b → named (xs ++ ys) k ≡ before (named xs k) (named ys k) → named ((x ∷ xs) ++ ys) k ≡ before (named (x ∷ xs) k) (named ys k)
    go true e ih = rw (named, e)
    go false e ih = rw (named, e) ih

valued-named : (es : List (Bytes × (List Word → Option Value))) (k : Bytes) (r : List Word) → apply (named (value_heads es) k) r ≡ map_option value_head (apply (named es k) r)
unfolding value_heads named apply map_option
valued-named [] k r = refl
valued-named (e ∷ es) k r = go (same e.0 k) refl (valued-named es k r)
  where
    go : (b : Bool) → same e.0 k ≡ b → apply (named (value_heads es) k) r ≡ map_option value_head (apply (named es k) r)
        → apply (named (value_heads (e ∷ es)) k) r ≡ map_option value_head (apply (named (e ∷ es) k) r)
    go true h ih = rw (named, h)
    go false h ih = rw (named, h) ih

-- the expression records that are no literals
unfoldable pub others : List (Bytes × (List Word → Option Head))
others =
    (bytes "op", one_field (word operators))
    ∷ (bytes "col", column_fields)
    ∷ (bytes "fn", call_fields)
    ∷ (bytes "star", λ r. map_option (λ u. star_head) (no_field r))
    ∷ []

heads-are : heads ≡ others ++ value_heads literals
unfolding heads others
heads-are = refl

pub other-words : keys others ≡ words_of (bytes "op col fn star ")
unfolding others keys words_of push bytes
other-words = refl

columns-not : (r : List Word) → (length r ≡ 1 → ⊥) → (length r ≡ 2 → ⊥) → column_fields r ≡ none
unfolding column_fields
columns-not [] h g = refl
columns-not (w ∷ []) h g = absurd (h refl)
columns-not (w ∷ (v ∷ [])) h g = absurd (g refl)
columns-not (w ∷ (v ∷ (u ∷ r))) h g = refl

abbrev here : Bytes → ℕ → ℕ → ℕ → ℕ → Place
here t p l c n = place statement t p l c n

-- r is the line at p
module _ (t : Bytes) (p l c n : ℕ) (r : Line) (f : Fields t p r) where
  -- the other fields
  alone : r.count ≡ 1 → rest (here t p l c n) ≡ []
  alone = rest-none statement t p l c n r f

  without : (i : ℕ) → suc i < kept_fields → (r.count ≡ suc i → ⊥) → length (rest (here t p l c n)) ≡ i → ⊥
  without = rest-other statement t p l c n r f

  -- EXPRESSION RECORDS
  module _ (k : ℕ) (words : Bytes) (e : keys others ≡ words_of words) (h : k ≡ find (words_of words) (take (nth_field r.fields 0).length (drop (nth_field r.fields 0).start t))) where
    other-is : named others (key (here t p l c n)) ≡ nth others k
    other-is = ap (named others) (key-is statement t p l c n r f) ∙ named_by others words _ k e h

    head-by : (g : List Word → Option Head) → nth others k ≡ some g → one_of heads (line_here (here t p l c n)) ≡ g (rest (here t p l c n))
    unfolding one_of key rest apply before
    head-by g e =
        let x = key_of (line_here (here t p l c n)) in
        let w : named heads x ≡ some g = ap (λ y. named y x) heads-are ∙ named-append others (value_heads literals) x ∙ rw (other-is ∙ e) in
        rw w

    pub head-literal : 4 ≤ k → one_of heads (line_here (here t p l c n)) ≡ map_option value_head (one_of literals (line_here (here t p l c n)))
    unfolding one_of key before
    head-literal m =
        let x = key_of (line_here (here t p l c n)) in
        let z = nth-none others k (unfold others in m) in
        let w : named heads x ≡ named (value_heads literals) x = ap (λ y. named y x) heads-are ∙ named-append others (value_heads literals) x ∙ rw (other-is ∙ z) in
        rw w (valued-named literals x (rest_of (line_here (here t p l c n))))

    at_op : k ≡ 0 → one_of heads (line_here (here t p l c n)) ≡ one_field (word operators) (rest (here t p l c n))
    at_op z = head-by (one_field (word operators)) (unfold others nth in rw z)

    pub head-op : k ≡ 0 → r.count ≡ 2 → one_of heads (line_here (here t p l c n)) ≡ word operators (field most_bytes t (nth_field r.fields 1).start (nth_field r.fields 1).length)
    unfolding one_field
    head-op z m = at_op z ∙ rw (with-one t p l c n r f m)

    pub head-op-not : k ≡ 0 → (r.count ≡ 2 → ⊥) → one_of heads (line_here (here t p l c n)) ≡ none
    head-op-not z m = at_op z ∙ one_field_lem (word operators) _ (without 1 (omega arith) m)

    at-column : k ≡ 1 → one_of heads (line_here (here t p l c n)) ≡ column_fields (rest (here t p l c n))
    at-column z = head-by column_fields (unfold others nth in rw z)

    pub head-column : k ≡ 1 → r.count ≡ 2 → one_of heads (line_here (here t p l c n)) ≡ column_fields (field most_bytes t (nth_field r.fields 1).start (nth_field r.fields 1).length ∷ [])
    head-column z m = at-column z ∙ ap column_fields (with-one t p l c n r f m)

    pub head-qualified : k ≡ 1 → r.count ≡ 3
        → one_of heads (line_here (here t p l c n)) ≡ column_fields (field most_bytes t (nth_field r.fields 1).start (nth_field r.fields 1).length ∷ field most_bytes t (nth_field r.fields 2).start (nth_field r.fields 2).length ∷ [])
    head-qualified z m = at-column z ∙ ap column_fields (with-two t p l c n r f m)

    pub head-column-not : k ≡ 1 → (r.count ≡ 2 → ⊥) → (r.count ≡ 3 → ⊥) → one_of heads (line_here (here t p l c n)) ≡ none
    head-column-not z m o = at-column z ∙ columns-not _ (without 1 (omega arith) m) (without 2 (omega arith) o)

    at_call : k ≡ 2 → one_of heads (line_here (here t p l c n)) ≡ call_fields (rest (here t p l c n))
    at_call z = head-by call_fields (unfold others nth in rw z)

    pub head-call : k ≡ 2 → r.count ≡ 3
        → one_of heads (line_here (here t p l c n)) ≡ call_fields (field most_bytes t (nth_field r.fields 1).start (nth_field r.fields 1).length ∷ field most_bytes t (nth_field r.fields 2).start (nth_field r.fields 2).length ∷ [])
    head-call z m = at_call z ∙ ap call_fields (with-two t p l c n r f m)

    pub head-call-not : k ≡ 2 → (r.count ≡ 3 → ⊥) → one_of heads (line_here (here t p l c n)) ≡ none
    unfolding call_fields map_option
    head-call-not z m = at_call z ∙ rw (two_fields_lem name count_field _ (without 2 (omega arith) m))

    at-star : k ≡ 3 → one_of heads (line_here (here t p l c n)) ≡ map_option (λ u. star_head) (no_field (rest (here t p l c n)))
    at-star z = head-by (λ ws. map_option (λ u. star_head) (no_field ws)) (unfold others nth in rw z)

    pub head-star : k ≡ 3 → r.count ≡ 1 → one_of heads (line_here (here t p l c n)) ≡ some star_head
    unfolding no_field map_option
    head-star z m = at-star z ∙ rw (alone m)

    pub head-star-not : k ≡ 3 → (r.count ≡ 1 → ⊥) → one_of heads (line_here (here t p l c n)) ≡ none
    unfolding map_option
    head-star-not z m = at-star z ∙ rw (no-field _ (without 0 (omega arith) m))
