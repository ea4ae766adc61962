-- How many numbers a catalog's text can need: a column takes 23 bytes of text at least, and eight numbers.
use Rattle.std.specs.Prelude.{ℕ, zero, suc, ◌+◌, ◌*◌, ◌/◌, ◌≤◌, min, ◌≡◌, refl, Bool, true, false, eqb, length, drop}
use native.Mathlib.Omega.{arith}
use Rattle.std.proofs.Math.Nat.{min-le_left, min-le_right}
use Rattle.std.proofs.Common.{sym, ap, ◌∙◌}
use Rattle.std.proofs.Math.Option.{Option, none, some}
use mathlib.Core.List.{List, [], ◌∷◌}
use Rattle.rules.specs.Refusals.{catalog}
use Rattle.rules.specs.Lists.{Bytes, same, named, map_option}
use Rattle.rules.specs.Lines.{Word, bytes, fields, line_size, onto, empty}
use Rattle.rules.specs.Schema.{Value, null, Datatype}
use Rattle.rules.specs.Reader.{line_here, at, key, key_of, rest, rest_of, name, word, no_field, one_field, apply, literals}
use Rattle.rules.specs.ReadColumn.{column_fields, datatypes, nullables, ◌>>=◌}
use Rattle.rules.specs.ReadCatalog.{default_records}
use Rattle.text.specs.Lines.{line_end}
use Rattle.text.specs.Numbers.{is_name, name_out}
use Rattle.text.specs.Order.{same_true}
use Rattle.text.specs.Reading.{place-line}
use Rattle.schema.specs.Layout.{numbers, column_start}
use Rattle.schema.specs.Records.{here, column_here}

-- the fewest bytes of a column's line, as of `column x int null`, of its default's, as of `null`, and of both
abbrev pub least_line : ℕ
least_line = 18

abbrev pub least_default : ℕ
least_default = 5

abbrev pub least_column : ℕ
least_column = least_line + least_default

-- enough numbers for a catalog of n bytes: for as many columns as those can hold, and never more than for the most
abbrev pub numbers_for : ℕ → ℕ
numbers_for n = min numbers (column_start (n / least_column))

-- a column behind j others, whose lines end within the text, has room for its numbers
pub column_fits : {n m : ℕ} (j : ℕ) → numbers_for n ≤ m → column_start (suc j) ≤ numbers → least_column * suc j ≤ n → column_start (suc j) ≤ m
column_fits j h g k = omega arith

-- A LINE'S BYTES
never : {A : Type 0} {a : A} → none ≡ some a → ⊥
never e = grind arith

-- the bytes of some fields, each with the tab or LF behind it
unfoldable pub field_bytes : List Word → ℕ
field_bytes [] = 0
field_bytes (w ∷ r) = suc (length w.bytes) + field_bytes r

unfoldable pub last_length : List Word → ℕ
last_length [] = 0
last_length (w ∷ []) = length w.bytes
last_length (w ∷ (v ∷ r)) = last_length (v ∷ r)

-- the fields of a line that has its LF: where the text ends first, two empty ones stand behind the last
abbrev pub Closed : List Word → Type 0
Closed r = 3 ≤ length r → 1 ≤ last_length r

-- such a line has at least the bytes of its fields
line-least : (o : ℕ) (xs : Bytes) → (1 ≤ length (fields o xs)) × (Closed (fields o xs) → field_bytes (fields o xs) ≤ line_size xs)
unfolding fields line_size onto empty field_bytes last_length
line-least o [] = (omega arith, λ h. absurd (omega (arith, h (omega arith))))
line-least o (x ∷ xs) = go (eqb x 10) (eqb x 9) refl refl (fields (suc o) xs) refl (line-least (suc o) xs)
  where
    go : (a b : Bool) → eqb x 10 ≡ a → eqb x 9 ≡ b → (r : List Word) → fields (suc o) xs ≡ r
        → (1 ≤ length (fields (suc o) xs)) × (Closed (fields (suc o) xs) → field_bytes (fields (suc o) xs) ≤ line_size xs)
        → (1 ≤ length (fields o (x ∷ xs))) × (Closed (fields o (x ∷ xs)) → field_bytes (fields o (x ∷ xs)) ≤ line_size (x ∷ xs))
    go true b e f r h ih = rw (fields, line_size, e) (omega arith, λ k. omega arith)
    go false b e f [] h ih = absurd (omega (arith, (rw h at ih.0)))
    go false true e f (w ∷ ws) h ih =
        let i = rw h at ih.1 in
        rw (fields, line_size, e, f, h) (omega arith, λ k. omega (arith, i (λ l. k (omega arith))))
    go false false e f (w ∷ []) h ih =
        let i = rw h at ih.1 in
        rw (fields, line_size, e, f, h) (omega arith, λ k. omega (arith, i (λ l. absurd (omega arith))))
    go false false e f (w ∷ (v ∷ ws)) h ih =
        let i = rw h at ih.1 in
        rw (fields, line_size, e, f, h) (omega arith, λ k. omega (arith, i k))

-- the same of the line at p
pub line-size : (t : Bytes) (p l m : ℕ) → Closed (line_here (here t p l)) → m ≤ field_bytes (line_here (here t p l)) → p + m ≤ line_end t p
unfolding line_end
line-size t p l m h g =
    let e = place-line catalog t p l 0 0 in
    omega (arith, (line-least _ (drop p t)).1 (rw e at h), (rw e at g))

-- WORDS OF A TABLE
-- the fewest bytes of a word of the table, or m where that is less
unfoldable least_word : {A : Type 0} → ℕ → List (Bytes × A) → ℕ
least_word m [] = m
least_word m (e ∷ es) = min (length e.0) (least_word m es)

named-least : {A : Type 0} (m : ℕ) (table : List (Bytes × A)) (k : Bytes) (a : A) → named table k ≡ some a → least_word m table ≤ length k
unfolding named least_word
named-least m [] k a h = absurd (never h)
named-least m (e ∷ es) k a h = go (same e.0 k) refl (named-least m es k a)
  where
    go : (b : Bool) → same e.0 k ≡ b → (named es k ≡ some a → least_word m es ≤ length k) → least_word m (e ∷ es) ≤ length k
    go true z ih = omega (arith, min-le_left (length e.0) (least_word m es), ap length (same_true e.0 k z))
    go false z ih = omega (arith, min-le_right (length e.0) (least_word m es), ih (rw (named, z) at h))

name-least : (w v : Word) → name w ≡ some v → 1 ≤ length w.bytes
unfolding is_name
name-least w v e = go (length w.bytes) refl
  where
    go : (n : ℕ) → length w.bytes ≡ n → 1 ≤ length w.bytes
    go zero h = absurd (never (sym (name_out w (rw h)) ∙ e))
    go (suc n) h = omega (arith, h)

-- THE COLUMN'S LINE
column-words : (n t u : Word) (h : Word × Datatype × Bool) → column_fields (n ∷ t ∷ u ∷ []) ≡ some h
    → (1 ≤ length n.bytes) × (3 ≤ length t.bytes) × (4 ≤ length u.bytes)
unfolding column_fields ◌>>=◌ word datatypes nullables least_word bytes
column-words n t u h e = go (name n) (word datatypes t) (word nullables u) refl refl refl
  where
    go : (a : Option Word) (b : Option Datatype) (c : Option Bool) → name n ≡ a → word datatypes t ≡ b → word nullables u ≡ c
        → (1 ≤ length n.bytes) × (3 ≤ length t.bytes) × (4 ≤ length u.bytes)
    go none b c ea eb ec = absurd (never (rw ea at e))
    go (some a) none c ea eb ec = absurd (never (rw (ea, eb) at e))
    go (some a) (some b) none ea eb ec = absurd (never (rw (ea, eb, ec) at e))
    go (some a) (some b) (some c) ea eb ec = (name-least n a ea, named-least 3 datatypes t.bytes b eb, named-least 4 nullables u.bytes c ec)

column-least : (r : List Word) (h : Word × Datatype × Bool) → same (key_of r) (bytes "column") ≡ true → column_fields (rest_of r) ≡ some h
    → Closed r × (least_line ≤ field_bytes r)
unfolding key_of rest_of column_fields field_bytes last_length bytes
column-least [] h k e = absurd (never e)
column-least (w ∷ []) h k e = absurd (never e)
column-least (w ∷ (n ∷ [])) h k e = absurd (never e)
column-least (w ∷ (n ∷ (t ∷ []))) h k e = absurd (never e)
column-least (w ∷ (n ∷ (t ∷ (u ∷ [])))) h k e =
    let g = column-words n t u h e in
    let z : length w.bytes ≡ 6 = ap length (same_true w.bytes (bytes "column") k) in
    (λ l. omega (arith, g.2), omega (arith, z, g.0, g.1, g.2))
column-least (w ∷ (n ∷ (t ∷ (u ∷ (v ∷ r))))) h k e = absurd (never e)

pub column-bytes : (t : Bytes) (p l : ℕ) (h : Word × Datatype × Bool) → column_here (here t p l) ≡ some (some h) → p + least_line ≤ line_end t p
unfolding column_here at key rest
column-bytes t p l h e = go (at (bytes "column") (here t p l)) refl
  where
    go : (b : Bool) → at (bytes "column") (here t p l) ≡ b → p + least_line ≤ line_end t p
    go false z = absurd (never (rw (column_here, z) at e))
    go true z =
        let x : some (column_fields (rest (here t p l))) ≡ some (some h) = (rw (column_here, z) at e) in
        let y : column_fields (rest (here t p l)) ≡ some h = cc in
        let g = column-least (line_here (here t p l)) h z y in
        line-size t p l least_line g.0 g.1

-- THE DEFAULT'S LINE
-- what follows a word of n bytes is at most one field, and with that field's tab there are four bytes
abbrev pub Follows : ℕ → List Word → Type 0
Follows n r = (length r ≤ 1) × (4 ≤ n + length r)

unfoldable pub Short : {A : Type 0} → List (Bytes × (List Word → Option A)) → Type 0
Short [] = Unit
Short {A} (e ∷ es) = ((r : List Word) (a : A) → e.1 r ≡ some a → Follows (length e.0) r) × Short es

pub named-short : {A : Type 0} (table : List (Bytes × (List Word → Option A))) (k : Bytes) (r : List Word) (a : A) → Short table → apply (named table k) r ≡ some a
    → Follows (length k) r
unfolding named apply Short
named-short [] k r a g h = absurd (never h)
named-short (e ∷ es) k r a g h = go (same e.0 k) refl (named-short es k r a g.1)
  where
    go : (b : Bool) → same e.0 k ≡ b → (apply (named es k) r ≡ some a → Follows (length k) r) → Follows (length k) r
    go true z ih = rw (same_true e.0 k z) at (g.0 r a (rw (named, z) at h))
    go false z ih = ih (rw (named, z) at h)

module _ (n : ℕ) where
  null-short : 4 ≤ n → (r : List Word) (a : Option Value) → map_option some (map_option (λ u. null) (no_field r)) ≡ some a → Follows n r
  unfolding no_field map_option
  null-short m [] a h = (omega arith, omega arith)
  null-short m (w ∷ r) a h = absurd (never h)

  none-short : 4 ≤ n → (r : List Word) (a : Option Value) → map_option (λ u. none) (no_field r) ≡ some a → Follows n r
  unfolding no_field map_option
  none-short m [] a h = (omega arith, omega arith)
  none-short m (w ∷ r) a h = absurd (never h)

  value-short : 3 ≤ n → (f : Word → Option Value) (r : List Word) (a : Option Value) → map_option some (one_field f r) ≡ some a → Follows n r
  unfolding one_field map_option
  value-short m f [] a h = absurd (never h)
  value-short m f (w ∷ []) a h = (omega arith, omega arith)
  value-short m f (w ∷ (v ∷ r)) a h = absurd (never h)

pub default-short : Short (default_records literals)
unfolding Short default_records literals bytes
default-short = (
  null-short 4 (omega arith),
  (
    value-short 4 (omega arith) _,
    (
      value-short 3 (omega arith) _,
      (
        value-short 5 (omega arith) _,
        (value-short 4 (omega arith) _, (none-short 9 (omega arith), tt)),
      ),
    ),
  ),
)

pub field-most : (r : List Word) → length r ≤ field_bytes r
unfolding field_bytes
field-most [] = omega arith
field-most (w ∷ r) = omega (arith, field-most r)
