-- How many bytes the records of FROM have at least.
use Rattle.std.specs.Prelude.{ℕ, suc, ◌+◌, ◌≤◌, ◌<◌, Bool, eqb, drop}
use native.Mathlib.Omega.{arith}
use Rattle.std.proofs.Math.Path.{◌≡◌, refl}
use Rattle.std.proofs.Common.{sym, ap, ◌∙◌}
use Rattle.std.proofs.Math.Bool.{true, false}
use mathlib.Core.List.{List, [], ◌∷◌}
use Rattle.std.proofs.Math.Option.{Option, none, some}
use Rattle.std.proofs.Math.ListN.{length}
use Rattle.rules.specs.Refusals.{statement}
use Rattle.rules.specs.Lists.{Bytes, same, named, map_option}
use Rattle.rules.specs.Lines.{Word, onto, empty, fields, line_size, bytes}
use Rattle.rules.specs.Lines as rules
use Rattle.rules.specs.Ast.{Join}
use Rattle.rules.specs.Reader.{base_address, line_here, key_of, rest_of, apply, one_of, word, both, two_fields, name_alias}
use Rattle.rules.specs.ReadStatement.{FromHead, table_head, join_head, joins, predicates, from_heads}
use Rattle.text.specs.Order.{same_true}
use Rattle.text.specs.Lines.{line_end}
use Rattle.text.specs.Reading.{place-line}
use Rattle.read_expression.specs.Reading.{here}
use Rattle.from.specs.Records.{table_fields, join_fields}

-- THE FIELDS OF A LINE AND ITS BYTES
-- the bytes of fields, each with the byte that ends it
unfoldable total : List Word → ℕ
total [] = 0
total (w ∷ ws) = suc (length w.bytes) + total ws

unfoldable last_size : List Word → ℕ
last_size [] = 0
last_size (w ∷ []) = length w.bytes
last_size (w ∷ (v ∷ ws)) = last_size (v ∷ ws)

-- whether an LF ends the line
unfoldable closed : Bytes → Bool
closed [] = false
closed (x ∷ xs) = elim (eqb x 10) [ true ↦ true | false ↦ closed xs ]

total-onto : (o x : ℕ) (ws : List Word) → 1 ≤ length ws → total (onto o x ws) ≡ suc (total ws)
unfolding total onto
total-onto o x [] h = absurd (omega arith)
total-onto o x (w ∷ ws) h = omega arith

length-onto : (o x : ℕ) (ws : List Word) → 1 ≤ length ws → length (onto o x ws) ≡ length ws
unfolding onto
length-onto o x [] h = absurd (omega arith)
length-onto o x (w ∷ ws) h = refl

last-onto : (o x : ℕ) (ws : List Word) → 2 ≤ length ws → last_size (onto o x ws) ≡ last_size ws
unfolding last_size onto
last-onto o x [] h = absurd (omega arith)
last-onto o x (w ∷ []) h = absurd (omega arith)
last-onto o x (w ∷ (v ∷ ws)) h = refl

last_cons : (w : Word) (ws : List Word) → 1 ≤ length ws → last_size (w ∷ ws) ≡ last_size ws
unfolding last_size
last_cons w [] h = absurd (omega arith)
last_cons w (v ∷ ws) h = refl

-- a closed line has the bytes of its fields
record Whole (o : ℕ) (xs : Bytes) : Type 0 where
  some : 1 ≤ length (fields o xs)
  all : total (fields o xs) ≡ line_size xs

whole : (o : ℕ) (xs : Bytes) → closed xs ≡ true → Whole o xs
unfolding closed fields line_size total empty
whole o [] e = grind arith
whole o (x ∷ xs) e = go (eqb x 10) (eqb x 9) refl refl (whole (suc o) xs)
  where
    go : (a b : Bool) → eqb x 10 ≡ a → eqb x 9 ≡ b → (closed xs ≡ true → Whole (suc o) xs) → Whole o (x ∷ xs)
    go true b h g rec = record { some = rw (fields, h) (omega arith); all = rw (fields, line_size, h) }
    go false true h g rec =
        let ih = rec (rw (closed, h) at e) in
        record { some = rw (fields, h, g) (omega arith); all = rw (fields, line_size, h, g) (omega (arith, ih.all)) }
    go false false h g rec =
        let ih = rec (rw (closed, h) at e) in
        record {
          some = rw (fields, h, g, length-onto o x (fields (suc o) xs) ih.some) ih.some;
          all = rw (fields, line_size, h, g, total-onto o x (fields (suc o) xs) ih.some) (omega (arith, ih.all));
        }

-- the last field of another is empty
record Broken (o : ℕ) (xs : Bytes) : Type 0 where
  many : 3 ≤ length (fields o xs)
  last : last_size (fields o xs) ≡ 0

broken : (o : ℕ) (xs : Bytes) → closed xs ≡ false → Broken o xs
unfolding closed
broken o [] e = record { many = unfold fields in omega arith; last = unfold fields last_size empty in refl }
broken o (x ∷ xs) e = go (eqb x 10) (eqb x 9) refl refl (broken (suc o) xs)
  where
    go : (a b : Bool) → eqb x 10 ≡ a → eqb x 9 ≡ b → (closed xs ≡ false → Broken (suc o) xs) → Broken o (x ∷ xs)
    go true b h g rec = absurd (let y : true ≡ false = (rw (closed, h) at e) in grind arith)
    go false true h g rec =
        let ih = rec (rw (closed, h) at e) in
        record {
          many = unfold fields in rw (fields, h, g) (omega (arith, ih.many));
          last = unfold fields in rw (fields, h, g) (last_cons (empty o) (fields (suc o) xs) (omega (arith, ih.many)) ∙ ih.last);
        }
    go false false h g rec =
        let ih = rec (rw (closed, h) at e) in
        record {
          many = unfold fields in rw (fields, h, g, length-onto o x (fields (suc o) xs) (omega (arith, ih.many))) ih.many;
          last = unfold fields in rw (fields, h, g) (last-onto o x (fields (suc o) xs) (omega (arith, ih.many)) ∙ ih.last);
        }

-- a line whose last field has a byte
bytes_of : (o : ℕ) (xs : Bytes) → 1 ≤ last_size (fields o xs) → total (fields o xs) ≤ line_size xs
bytes_of o xs h = go (closed xs) refl
  where
    go : (b : Bool) → closed xs ≡ b → total (fields o xs) ≤ line_size xs
    go true e = omega (arith, (whole o xs e).all)
    go false e = absurd (omega (arith, (broken o xs e).last))

-- WORDS OF A TABLE
same_length : (x y : Bytes) → same x y ≡ true → length x ≡ length y
same_length x y e = ap length (same_true x y e)

-- each word has n bytes at least
unfoldable Least : {A : Type 0} → ℕ → List (Bytes × A) → Type 0
Least n [] = Unit {0}
Least n (e ∷ es) = (n ≤ length e.0) × Least n es

named-least : {A : Type 0} (n : ℕ) (t : List (Bytes × A)) (k : Bytes) (a : A) → Least n t → named t k ≡ some a → n ≤ length k
unfolding named Least
named-least n [] k a l h = grind arith
named-least n (e ∷ es) k a l h = go (same e.0 k) refl (named-least n es k a l.1)
  where
    go : (b : Bool) → same e.0 k ≡ b → (named es k ≡ some a → n ≤ length k) → n ≤ length k
    go true g rec = omega (arith, same_length e.0 k g, l.0)
    go false g rec = rec (rw (named, g) at h)

joins-least : Least 4 joins
unfolding Least joins bytes
joins-least = (omega arith, (omega arith, (omega arith, (omega arith, tt))))

predicates-least : Least 2 predicates
unfolding Least predicates bytes
predicates-least = (omega arith, (omega arith, tt))

-- RECORDS
not-join : (j : Join) (o : Bool) (r : List Word) → table_fields r ≡ some (join_head j o) → ⊥
unfolding table_fields map_option
not-join j o r e = go (name_alias r) e
  where
    go : (q : Option (Word × Option Word)) → map_option (λ (q : Word × Option Word). table_head q.0 q.1) q ≡ some (join_head j o) → ⊥
    go none e = grind arith
    go (some q) e = grind arith

-- the two words of a join
join-words : (j : Join) (o : Bool) (r : List Word) → join_fields r ≡ some (join_head j o) → (8 ≤ total r) × (1 ≤ last_size r) × (length r ≡ 2)
unfolding join_fields map_option two_fields total last_size
join-words j o [] e = grind arith
join-words j o (w ∷ []) e = grind arith
join-words j o (w ∷ (v ∷ (u ∷ r))) e = grind arith
join-words j o (w ∷ (v ∷ [])) e = go (word joins w) refl (word predicates v) refl
  where
    go : (a : Option Join) → word joins w ≡ a → (b : Option Bool) → word predicates v ≡ b → (8 ≤ total (w ∷ v ∷ [])) × (1 ≤ last_size (w ∷ v ∷ [])) × (length (w ∷ v ∷ []) ≡ 2)
    go none h b g = absurd (let y : none ≡ some (join_head j o) = unfold both in (rw h at e) in grind arith)
    go (some a) h none g = absurd (let y : none ≡ some (join_head j o) = unfold both in (rw (h, g) at e) in grind arith)
    go (some a) h (some b) g =
        let m = named-least 4 joins w.bytes a joins-least (unfold word in h) in
        let n = named-least 2 predicates v.bytes b predicates-least (unfold word in g) in
        (omega arith, omega arith, refl)

-- the first record of a tree, by its keyword
module _ (line : rules.Line) (j : Join) (o : Bool) (e : one_of from_heads line ≡ some (join_head j o)) where
  join-fields : (length (key_of line) ≡ 4) × (join_fields (rest_of line) ≡ some (join_head j o))
  unfolding one_of from_heads named apply table_fields join_fields
  join-fields = go (same (bytes "from") (key_of line)) (same (bytes "join") (key_of line)) refl refl
    where
      go : (a b : Bool) → same (bytes "from") (key_of line) ≡ a → same (bytes "join") (key_of line) ≡ b → (length (key_of line) ≡ 4) × (join_fields (rest_of line) ≡ some (join_head j o))
      go true b h g = absurd (not-join j o (rest_of line) (rw (named, h) at e))
      go false true h g = (sym (same_length (bytes "join") (key_of line) g) ∙ (unfold bytes in refl), rw (named, h, named, g) at e)
      go false false h g = absurd (let y : none ≡ some (join_head j o) = (rw (named, h, named, g) at e) in grind arith)

  join-size : (13 ≤ total line) × (1 ≤ last_size line)
  unfolding key_of rest_of total
  join-size = go line join-fields.0 (join-words j o (rest_of line) join-fields.1)
    where
      go : (ws : rules.Line) → length (key_of ws) ≡ 4 → (8 ≤ total (rest_of ws)) × (1 ≤ last_size (rest_of ws)) × (length (rest_of ws) ≡ 2) → (13 ≤ total ws) × (1 ≤ last_size ws)
      go [] h g = absurd (omega (arith, h))
      go (w ∷ ws) h g = (omega (arith, h, g.0), rw (last_cons w ws (omega (arith, g.2))) g.1)

-- no record of FROM stands at the end of the text
line-some : (o : ℕ) (xs : Bytes) (h : FromHead) → one_of from_heads (fields o xs) ≡ some h → 1 ≤ line_size xs
unfolding line_size
line-some o [] h e = absurd (let y : none ≡ some h = unfold one_of from_heads named apply key_of rest_of fields empty same bytes in e in grind arith)
line-some o (x ∷ xs) h e = go (eqb x 10) refl
  where
    go : (b : Bool) → eqb x 10 ≡ b → 1 ≤ line_size (x ∷ xs)
    go true g = rw (line_size, g) (omega arith)
    go false g = rw (line_size, g) (omega arith)

-- RECORDS BY POSITION
module _ (t : Bytes) (p l c k : ℕ) where
  -- a record takes a byte at least, a join thirteen
  pub record-moves : (h : FromHead) → one_of from_heads (line_here (here t p l c k)) ≡ some h → p < line_end t p
  unfolding line_end
  record-moves h e = omega (arith, line-some (base_address statement + p) (drop p t) h (rw (place-line statement t p l c k) at e))

  pub join-moves : (j : Join) (o : Bool) → one_of from_heads (line_here (here t p l c k)) ≡ some (join_head j o) → p + 13 ≤ line_end t p
  unfolding line_end
  join-moves j o e =
      let w = join-size (line_here (here t p l c k)) j o e in
      let z = place-line statement t p l c k in
      let m : 13 ≤ total (fields (base_address statement + p) (drop p t)) = (rw z at w.0) in
      let n : 1 ≤ last_size (fields (base_address statement + p) (drop p t)) = (rw z at w.1) in
      omega (arith, m, bytes_of (base_address statement + p) (drop p t) n)
