-- Where reading stands, by position in a text, and what the line there says of the record.
use Prim.Native.Nat.{ℕ, zero, suc, ◌+◌, ◌-◌, ◌≤◌, ◌<◌, min}
use native.Mathlib.Omega.{arith}
use Rattle.std.proofs.Common.{add-zero, zero-add, ◌∙◌, drop-drop, take_all}
use Rattle.std.proofs.Math.Nat.{add_assoc, min-eq_left, min-eq_right, le-min}
use Rattle.std.proofs.Math.Decide.{dec_lt}
use Rattle.std.proofs.Math.Numerals.{add-one}
use Rattle.std.specs.Prelude.{◌≡◌, Bool, true, false, List, [], ◌∷◌, eqb, get_or, take, drop}
use Rattle.std.proofs.Math.Path.{refl, sym, ap}
use Rattle.std.proofs.Math.Option.{Option, none, some}
use Rattle.std.proofs.Math.ListN.{length, drop_of_length-le, length-drop, length-take}
use Rattle.rules.specs.Limits.{most_bytes}
use Rattle.rules.specs.Lists.{Bytes, same, named}
use Rattle.rules.specs.Refusals.{Text, catalog, statement}
use Rattle.rules.specs.Lines.{Word, fields, onto}
use Rattle.rules.specs.Lines as rules
use Rattle.rules.specs.Reader.{Place, base_address, start, line_here, next, key_of, rest_of, key, rest, at, apply, one_of, name}
use Rattle.rules.specs.Places.{word_at, bytes_at}
use Rattle.text.specs.Bytes.{step, part_length}
use Rattle.text.specs.Places.{bytes-catalog, bytes-statement}
use Rattle.text.specs.Lines.{line_end, nth_field, field, fields_from, line_of, kept_fields, Inside, Fields, fields-length}
use Rattle.text.specs.Words.{find, words_of, keys, nth, named_by}
use Rattle.text.specs.Numbers.{is_name, name_in, name_out}
use Rattle.text.specs.declared.Field.{Field}
use Rattle.text.specs.declared.Line.{Line}

-- reading stands at position p of a text, which is line l of it
unfoldable pub place : Text → Bytes → ℕ → ℕ → ℕ → ℕ → Place
place k t p l c n = record { text = k; left = drop p t; address = base_address k + p; line = l; cells = c; tables = n }

module _ (k : Text) (t : Bytes) where
  pub place-start : start k t ≡ place k t 0 1 0 0
  unfolding start place
  place-start = rw (add-zero (base_address k))

  module _ (p l c n : ℕ) where
    pub place-next : next (place k t p l c n) ≡ place k t (line_end t p) (l + 1) c n
    unfolding next place line_end
    place-next = rw (drop-drop (rules.line_size (drop p t)) p t, add-one l, add_assoc (base_address k) p (rules.line_size (drop p t)))

    pub place-line : line_here (place k t p l c n) ≡ fields (base_address k + p) (drop p t)
    unfolding line_here place
    place-line = refl

    -- the bytes left
    pub place_end : length t ≤ p → (place k t p l c n).left ≡ []
    unfolding place
    place_end h = drop_of_length-le t h

    pub place-more : p < length t → (place k t p l c n).left ≡ get_or t p 0 ∷ drop (p + 1) t
    unfolding place
    place-more h = step t p h

    pub place-length : length (place k t p l c n).left ≡ length t - p
    unfolding place
    place-length = length-drop p t

-- THE LINE HERE
fields-some : (o : ℕ) (xs : Bytes) → 1 ≤ length (fields o xs)
unfolding fields onto
fields-some o [] = omega arith
fields-some o (x ∷ xs) = go (eqb x 10) (eqb x 9) refl refl (fields (suc o) xs) refl
  where
    go : (a b : Bool) → eqb x 10 ≡ a → eqb x 9 ≡ b → (r : rules.Line) → fields (suc o) xs ≡ r → 1 ≤ length (fields o (x ∷ xs))
    go true b e f r h = rw (fields, e) (omega arith)
    go false true e f r h = rw (fields, e, f) (omega arith)
    go false false e f [] h = rw (fields, e, f, h) (omega arith)
    go false false e f (w ∷ ws) h = rw (fields, e, f, h) (omega arith)

-- the i-th field of a line
unfoldable pub field_of : Text → Bytes → Line → ℕ → Word
field_of k t r i = field (base_address k) t (nth_field r.fields i).start (nth_field r.fields i).length

-- a field inside the text has as many bytes as it says
field-length : (t : Bytes) (p : ℕ) (fs : List Field) (n i : ℕ) → Inside t p fs n → i < n → length (take (nth_field fs i).length (drop (nth_field fs i).start t)) ≡ (nth_field fs i).length
unfolding Inside
field-length t p fs n i h l = let w = h i l in part_length t (nth_field fs i).start (nth_field fs i).length (omega (arith, w.0, w.1))

key-take : (l : rules.Line) → key_of (take kept_fields l) ≡ key_of l
unfolding key_of
key-take [] = refl
key-take (w ∷ ws) = refl

module _ (base : ℕ) (t : Bytes) (fs : List Field) where
  key-first : (n : ℕ) → 1 ≤ n → key_of (fields_from base t fs 0 n) ≡ take (nth_field fs 0).length (drop (nth_field fs 0).start t)
  unfolding key_of fields_from field
  key-first zero h = absurd (omega arith)
  key-first (suc n) h = refl

  rest-fields : (n : ℕ) → rest_of (fields_from base t fs 0 n) ≡ fields_from base t fs 1 (n - 1)
  unfolding rest_of fields_from
  rest-fields zero = refl
  rest-fields (suc n) = let e : suc n - 1 ≡ n = omega arith in rw e

rest-length : (l : rules.Line) (i : ℕ) → length (rest_of l) ≡ i → 1 ≤ length l → length l ≡ suc i
unfolding rest_of
rest-length [] i h m = absurd (omega arith)
rest-length (w ∷ ws) i h m = ap suc h

min-below : (k n : ℕ) → min k n < k → n ≤ k
min-below k n h = elim (dec_lt n k) [
  | yes y ↦ omega (arith, y)
  | no y ↦ let m : k ≤ n = omega (arith, y) in let e : min k n ≡ k = min-eq_left m in absurd (omega arith)
]

-- r is the line at p
module _ (k : Text) (t : Bytes) (p l c n : ℕ) (r : Line) (f : Fields t p r) where
  kept : line_of (base_address k) t r ≡ take kept_fields (line_here (place k t p l c n))
  kept = f.fields (base_address k) ∙ ap (take kept_fields) (sym (place-line k t p l c n))

  pub line-count : r.count ≡ min kept_fields (length (line_here (place k t p l c n)))
  unfolding line_of
  line-count = sym (fields-length (base_address k) t r.fields 0 r.count) ∙ ap length kept ∙ length-take kept_fields (line_here (place k t p l c n))

  line-some : 1 ≤ length (line_here (place k t p l c n))
  line-some = rw (place-line k t p l c n) (fields-some _ _)

  pub count-some : 1 ≤ r.count
  count-some = rw line-count (le-min (omega arith) line-some)

  -- fewer than ten fields are all fields
  pub line-whole : r.count < kept_fields → line_here (place k t p l c n) ≡ line_of (base_address k) t r
  line-whole h = sym (kept ∙ take_all kept_fields (line_here (place k t p l c n)) (min-below kept_fields _ (rw line-count at h)))

  -- the keyword's bytes, and what is known of the fields
  pub key-is : key (place k t p l c n) ≡ take (nth_field r.fields 0).length (drop (nth_field r.fields 0).start t)
  unfolding key line_of
  key-is = sym (key-take (line_here (place k t p l c n))) ∙ ap key_of (sym kept) ∙ key-first (base_address k) t r.fields r.count count-some

  pub at-is : (w : Bytes) → at w (place k t p l c n) ≡ same (take (nth_field r.fields 0).length (drop (nth_field r.fields 0).start t)) w
  unfolding at
  at-is w = rw key-is

  -- a record by the number of its keyword, in a table whose words these are
  pub one-of : {A : Type 0} (table : List (Bytes × (List Word → Option A))) (words : Bytes) (i : ℕ) → keys table ≡ words_of words
      → i ≡ find (words_of words) (take (nth_field r.fields 0).length (drop (nth_field r.fields 0).start t))
      → one_of table (line_here (place k t p l c n)) ≡ apply (nth table i) (rest (place k t p l c n))
  unfolding one_of key rest
  one-of table words i e h = let o = named_by table words _ i e h in ap (λ z. apply z (rest_of (line_here (place k t p l c n)))) (ap (named table) key-is ∙ o)

  pub rest-whole : r.count < kept_fields → rest (place k t p l c n) ≡ fields_from (base_address k) t r.fields 1 (r.count - 1)
  unfolding rest line_of
  rest-whole h = ap rest_of (line-whole h) ∙ rest-fields (base_address k) t r.fields r.count

  -- the other fields where there are as many
  pub rest-none : r.count ≡ 1 → rest (place k t p l c n) ≡ []
  unfolding fields_from
  rest-none e = rest-whole (omega arith) ∙ rw e

  pub rest-one : r.count ≡ 2 → rest (place k t p l c n) ≡ field_of k t r 1 ∷ []
  unfolding fields_from field_of
  rest-one e = rest-whole (omega arith) ∙ rw e

  pub rest-two : r.count ≡ 3 → rest (place k t p l c n) ≡ field_of k t r 1 ∷ field_of k t r 2 ∷ []
  unfolding fields_from field_of
  rest-two e = rest-whole (omega arith) ∙ rw e

  pub rest-three : r.count ≡ 4 → rest (place k t p l c n) ≡ field_of k t r 1 ∷ field_of k t r 2 ∷ field_of k t r 3 ∷ []
  unfolding fields_from field_of
  rest-three e = rest-whole (omega arith) ∙ rw e

  -- and where there are not
  pub rest-other : (i : ℕ) → suc i < kept_fields → (r.count ≡ suc i → ⊥) → length (rest (place k t p l c n)) ≡ i → ⊥
  unfolding rest
  rest-other i h e g = e (line-count ∙ ap (min kept_fields) (rest-length (line_here (place k t p l c n)) i g line-some) ∙ min-eq_right (omega arith))

  -- lengths, names and bounds
  pub field-size : (i : ℕ) → i < r.count → length (field_of k t r i).bytes ≡ (nth_field r.fields i).length
  unfolding field_of field
  field-size i h = field-length t p r.fields r.count i f.inside h

  pub name-yes : (i : ℕ) → i < r.count → is_name (nth_field r.fields i).length ≡ true → name (field_of k t r i) ≡ some (field_of k t r i)
  name-yes i h e = name_in _ (ap is_name (field-size i h) ∙ e)

  pub name-no : (i : ℕ) → i < r.count → is_name (nth_field r.fields i).length ≡ false → name (field_of k t r i) ≡ none
  name-no i h e = name_out _ (ap is_name (field-size i h) ∙ e)

  pub field-inside : (i : ℕ) → p ≤ length t → i < r.count → (nth_field r.fields i).start + (nth_field r.fields i).length ≤ length t
  unfolding Inside
  field-inside i h g = let w = f.inside i g in omega (arith, w.1)

-- ADDRESSES
unfoldable pub text_of : Text → Bytes → Bytes → Bytes
text_of catalog c q = c
text_of statement c q = q

-- a field of either text is the word at its address
pub field-word : (k : Text) (c q : Bytes) (a n : ℕ) → a + n ≤ most_bytes → field (base_address k) (text_of k c q) a n ≡ word_at c q (base_address k + a) n
unfolding field text_of word_at base_address
field-word catalog c q a n h = rw (zero-add a, bytes c q a n h)
  where
    bytes : (c q : Bytes) (a n : ℕ) → a + n ≤ most_bytes → bytes_at c q a n ≡ take n (drop a c)
    bytes c q a n h = elim (dec_lt a most_bytes) [
      | yes y ↦ bytes-catalog c q a n (omega (arith, y))
      | no y ↦ let m : most_bytes ≤ a = omega (arith, y) in let z : n ≡ 0 = omega (arith, y) in bytes-statement c q a n m ∙ rw z
    ]
field-word statement c q a n h =
    let e : most_bytes + a - most_bytes ≡ a = omega arith in
    rw (bytes-statement c q (most_bytes + a) n (omega arith), e)

-- the same of the statement, by the fields' places
module _ (t : Bytes) (p l c n : ℕ) (r : Line) (f : Fields t p r) where
  pub with-one : r.count ≡ 2 → rest (place statement t p l c n) ≡ field most_bytes t (nth_field r.fields 1).start (nth_field r.fields 1).length ∷ []
  unfolding field_of base_address
  with-one = rest-one statement t p l c n r f

  pub with-two : r.count ≡ 3
      → rest (place statement t p l c n) ≡ field most_bytes t (nth_field r.fields 1).start (nth_field r.fields 1).length ∷ field most_bytes t (nth_field r.fields 2).start (nth_field r.fields 2).length ∷ []
  unfolding field_of base_address
  with-two = rest-two statement t p l c n r f
