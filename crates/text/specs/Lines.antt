-- Lines and fields by position in a text.
use Prim.Native.Nat.{ℕ, zero, suc, ◌+◌, ◌-◌, ◌≤◌, ◌<◌, min}
use native.Mathlib.Omega.{arith}
use Rattle.std.proofs.Common.{add-zero, zero-add, add-one, ◌∙◌, append_assoc, append-nil, drop_of_length-le, length-drop, take_at}
use Rattle.std.proofs.Math.Nat.{min-eq_right, min-zero, zero-min, suc-min-suc, min-le_right}
use Rattle.std.proofs.Math.Decide.{dec_lt}
use Rattle.std.specs.Prelude.{◌≡◌, Bool, true, false, List, [], ◌∷◌, ◌++◌, eqb, get_or, take, drop}
use Rattle.std.proofs.Math.Path.{refl, sym, ap}
use Rattle.std.proofs.Math.ListN.{length, set, length-set}
use Rattle.std.proofs.Math.Seq.{drop-drop, get_or-set_same, get_or-set_other}
use borrow.Author.Tests.{ne_eqb}
use Rattle.rules.specs.Lists.{Bytes}
use Rattle.rules.specs.Lines.{Word, onto, empty, fields, line_size}
use Rattle.rules.specs.Lines as rules
use Rattle.text.specs.Bytes.{run, stop_at, step, stop-after, stop-most}
use Rattle.text.specs.declared.Field.{Field}
use Rattle.text.specs.declared.Line.{Line}

-- the position behind the line at p
unfoldable pub line_end : Bytes → ℕ → ℕ
line_end t p = p + line_size (drop p t)

-- the field of n bytes at a
abbrev pub span : ℕ → ℕ → Field
span a n = record { start = a; length = n }

-- the i-th field
abbrev pub nth_field : List Field → ℕ → Field
nth_field fs i = get_or fs i (span 0 0)

-- The n bytes at a, as a field of the text whose first byte has the address base.
unfoldable pub field : ℕ → Bytes → ℕ → ℕ → Word
field base t a n = record { bytes = take n (drop a t); start = base + a }

-- n fields from the i-th on
unfoldable pub fields_from : ℕ → Bytes → List Field → ℕ → ℕ → rules.Line
fields_from base t fs i zero = []
fields_from base t fs i (suc n) = field base t (nth_field fs i).start (nth_field fs i).length ∷ fields_from base t fs (suc i) n

-- the line that a struct stands for
unfoldable pub line_of : ℕ → Bytes → Line → rules.Line
line_of base t r = fields_from base t r.fields 0 r.count

-- A record has at most nine fields: ten tell whether there are more.
abbrev pub kept_fields : ℕ
kept_fields = 10

-- a field that lies in the text from p on
abbrev pub In : Bytes → ℕ → Field → Type 0
In t p f = (p ≤ f.start) × (f.start + f.length ≤ p + (length t - p))

-- fields that do
unfoldable pub Inside : Bytes → ℕ → List Field → ℕ → Type 0
Inside t p fs n = (i : ℕ) → i < n → In t p (nth_field fs i)

-- What the line at p is: its first ten fields, whatever the text's first address, and where the next line starts.
pub record Fields (t : Bytes) (p : ℕ) (r : Line) : Type 0 where
  pub fields : (base : ℕ) → line_of base t r ≡ take kept_fields (rules.fields (base + p) (drop p t))
  pub inside : Inside t p r.fields r.count
  pub next : r.next ≡ line_end t p

-- a line of at most four fields
abbrev pub few_fields : List Field → ℕ → ℕ → Line
few_fields fs n next = record {
  fields = nth_field fs 0 ∷ nth_field fs 1 ∷ nth_field fs 2 ∷ nth_field fs 3 ∷ span 0 0 ∷ span 0 0 ∷ span 0 0 ∷ span 0 0 ∷ span 0 0 ∷ span 0 0 ∷ span 0 0 ∷ span 0 0 ∷ [];
  count = n;
  next = next;
}

-- LINE ENDS
pub line-none : (t : Bytes) (p : ℕ) → length t ≤ p → line_end t p ≡ p
unfolding line_end line_size
line-none t p h = rw (drop_of_length-le t h, add-zero)

pub line-hit : (t : Bytes) (p : ℕ) → p < length t → get_or t p 0 ≡ 10 → line_end t p ≡ p + 1
unfolding line_end line_size
line-hit t p h e = rw (step t p h, e)

pub line_step : (t : Bytes) (p : ℕ) → p < length t → (get_or t p 0 ≡ 10 → ⊥) → line_end t p ≡ line_end t (p + 1)
unfolding line_end line_size
line_step t p h e = rw (step t p h, line_size, ne_eqb _ _ e) (omega arith)

line-run : (y : ℕ) (xs : Bytes) → line_size xs ≡ run 10 y xs + line_size (drop (run 10 y xs) xs)
unfolding run line_size
line-run y [] = refl
line-run y (x ∷ xs) = go (eqb x 10) (eqb x y) refl refl (line-run y xs)
  where
    go : (a b : Bool) → eqb x 10 ≡ a → eqb x y ≡ b → line_size xs ≡ run 10 y xs + line_size (drop (run 10 y xs) xs)
        → line_size (x ∷ xs) ≡ run 10 y (x ∷ xs) + line_size (drop (run 10 y (x ∷ xs)) (x ∷ xs))
    go true b e f ih = rw (run, e) (sym (zero-add _))
    go false true e f ih = rw (run, e, f) (sym (zero-add _))
    go false false e f ih = rw (run, line_size, e, f) (omega (arith, ih))

-- the line ends behind the first LF, whatever else is looked for
pub line-stop : (y : ℕ) (t : Bytes) (p e : ℕ) → e ≡ stop_at 10 y t p → line_end t e ≡ line_end t p
unfolding line_end stop_at
line-stop y t p e h = rw (h, ← drop-drop (run 10 y (drop p t)) p t) (omega (arith, line-run y (drop p t)))

-- a line moves on, and never past the end
pub line-moves : (t : Bytes) (p : ℕ) → p < length t → p < line_end t p
unfolding line_end line_size
line-moves t p h = rw (step t p h, line_size) (go (eqb (get_or t p 0) 10))
  where
    go : (b : Bool) → p < p + elim b [ true ↦ 1 | false ↦ suc (line_size (drop (p + 1) t)) ]
    go true = omega arith
    go false = omega arith

size-most : (xs : Bytes) → line_size xs ≤ length xs
unfolding line_size
size-most [] = omega arith
size-most (x ∷ xs) = go (eqb x 10) refl (size-most xs)
  where
    go : (b : Bool) → eqb x 10 ≡ b → line_size xs ≤ length xs → line_size (x ∷ xs) ≤ length (x ∷ xs)
    go true e ih = rw (line_size, e) (omega arith)
    go false e ih = rw (line_size, e) (omega arith)

pub line-most : (t : Bytes) (p : ℕ) → line_end t p ≤ p + (length t - p)
unfolding line_end
line-most t p = omega (arith, size-most (drop p t), length-drop p t)

-- FIELDS
-- the fields behind the one that ends here
unfoldable more : ℕ → Bytes → rules.Line
more o [] = empty o ∷ empty o ∷ []
more o (x ∷ xs) = elim (eqb x 10) [ true ↦ [] | false ↦ fields (suc o) xs ]

fields-run : (o : ℕ) (xs : Bytes) → fields o xs ≡ record { bytes = take (run 10 9 xs) xs; start = o } ∷ more (o + run 10 9 xs) (drop (run 10 9 xs) xs)
unfolding fields run more empty onto
fields-run o [] = rw add-zero
fields-run o (x ∷ xs) = go (eqb x 10) (eqb x 9) refl refl (fields-run (suc o) xs)
  where
    go : (a b : Bool) → eqb x 10 ≡ a → eqb x 9 ≡ b → fields (suc o) xs ≡ record { bytes = take (run 10 9 xs) xs; start = suc o } ∷ more (suc o + run 10 9 xs) (drop (run 10 9 xs) xs)
        → fields o (x ∷ xs) ≡ record { bytes = take (run 10 9 (x ∷ xs)) (x ∷ xs); start = o } ∷ more (o + run 10 9 (x ∷ xs)) (drop (run 10 9 (x ∷ xs)) (x ∷ xs))
    go true b e f ih = rw (fields, run, e, more, e)
    go false true e f ih = rw (fields, run, e, f, more, e, run, e, f, add-zero o)
    go false false e f ih = rw (fields, run, e, f, ih) (ap (λ n. record { bytes = x ∷ take (run 10 9 xs) xs; start = o } ∷ more n (drop (run 10 9 xs) xs)) (omega arith))

-- the fields of the line at p, and those behind the field that ends at e
unfoldable pub fields_at : ℕ → Bytes → ℕ → rules.Line
fields_at base t p = fields (base + p) (drop p t)

unfoldable more_at : ℕ → Bytes → ℕ → rules.Line
more_at base t e = more (base + e) (drop e t)

module _ (base : ℕ) (t : Bytes) where
  fields-first : (p e : ℕ) → e ≡ stop_at 10 9 t p → fields_at base t p ≡ field base t p (e - p) ∷ more_at base t e
  unfolding fields_at more_at stop_at field
  fields-first p e h =
      let k : e - p ≡ run 10 9 (drop p t) = omega arith in
      let a : base + (p + run 10 9 (drop p t)) ≡ base + p + run 10 9 (drop p t) = omega arith in
      rw (k, h, a, ← drop-drop (run 10 9 (drop p t)) p t) (fields-run (base + p) (drop p t))

  more-end : (e : ℕ) → length t ≤ e → more_at base t e ≡ field base t e 0 ∷ field base t e 0 ∷ []
  unfolding more_at more empty field
  more-end e h = rw (drop_of_length-le t h)

  more-lf : (e : ℕ) → e < length t → get_or t e 0 ≡ 10 → more_at base t e ≡ []
  unfolding more_at more
  more-lf e h x = rw (step t e h, x)

  more-tab : (e : ℕ) → e < length t → (get_or t e 0 ≡ 10 → ⊥) → more_at base t e ≡ fields_at base t (e + 1)
  unfolding more_at more fields_at
  more-tab e h x = let a : suc (base + e) ≡ base + (e + 1) = omega arith in rw (step t e h, more, ne_eqb _ _ x, a)

  -- one more field is stored
  fields-more : (fs : List Field) (i k a b : ℕ) → i + k < length fs
      → fields_from base t (set fs (i + k) (span a b)) i (suc k) ≡ fields_from base t fs i k ++ (field base t a b ∷ [])
  unfolding fields_from
  fields-more fs i zero a b h =
      let h' : i < length fs = omega arith in
      rw (add-zero i, get_or-set_same fs i (span a b) (span 0 0) h')
  fields-more fs i (suc k) a b h =
      let ne : i ≡ i + suc k → ⊥ = λ e. omega (arith, e) in
      let s : i + suc k ≡ suc i + k = omega arith in
      let ih = fields-more fs (suc i) k a b (omega arith) in
      let x = get_or-set_other fs (i + suc k) i (span a b) (span 0 0) ne in
      let whole : fields_from base t (set fs (i + suc k) (span a b)) i (suc (suc k))
      ≡ field base t (nth_field (set fs (i + suc k) (span a b)) i).start (nth_field (set fs (i + suc k) (span a b)) i).length ∷ fields_from base t (set fs (i + suc k) (span a b)) (suc i) (suc k) = refl in
      let parts : fields_from base t fs i (suc k) ++ (field base t a b ∷ [])
      ≡ field base t (nth_field fs i).start (nth_field fs i).length ∷ (fields_from base t fs (suc i) k ++ (field base t a b ∷ [])) = refl in
      cc (whole, parts, ih, s, x)

  field-more : (fs : List Field) (n a b : ℕ) → n < length fs → fields_from base t (set fs n (span a b)) 0 (n + 1) ≡ fields_from base t fs 0 n ++ (field base t a b ∷ [])
  field-more fs n a b h = rw (add-one n) (rw zero-add at (fields-more fs 0 n a b (omega arith)))

  -- the first k of n fields
  pub fields-take : (fs : List Field) (k i n : ℕ) → take k (fields_from base t fs i n) ≡ fields_from base t fs i (min k n)
  unfolding fields_from
  fields-take fs zero i n = rw (zero-min n)
  fields-take fs (suc k) i zero = rw (min-zero (suc k))
  fields-take fs (suc k) i (suc n) = rw (suc-min-suc k n, fields-take fs k (suc i) n)

  pub fields-length : (fs : List Field) (i n : ℕ) → length (fields_from base t fs i n) ≡ n
  unfolding fields_from
  fields-length fs i zero = refl
  fields-length fs i (suc n) = ap suc (fields-length fs (suc i) n)

-- THE LOOP OVER THE FIELDS
-- n fields are read, and the next starts at q
pub record Reading (t : Bytes) (p : ℕ) (fs : List Field) (n q : ℕ) : Type 0 where
  pub is : (base : ℕ) → fields_at base t p ≡ fields_from base t fs 0 n ++ fields_at base t q
  pub inside : Inside t p fs n
  pub end : line_end t q ≡ line_end t p
  pub from : p ≤ q
  pub most : q ≤ p + (length t - p)

pub begin : (t : Bytes) (p : ℕ) (fs : List Field) → Reading t p fs 0 p
unfolding fields_from Inside
begin t p fs = record { is = λ base. refl; inside = λ i h. absurd (omega arith); end = refl; from = omega arith; most = omega arith }

inside-more : (t : Bytes) (p : ℕ) (fs : List Field) (n a b : ℕ) → n < length fs → Inside t p fs n → p ≤ a → a + b ≤ p + (length t - p)
    → Inside t p (set fs n (span a b)) (n + 1)
unfolding Inside
inside-more t p fs n a b h r l m i k = elim (dec_lt i n) [ yes y ↦ earlier (omega (arith, y)) (r i (omega (arith, y))) | no y ↦ last (omega (arith, y, k)) ]
  where
    earlier : i < n → In t p (nth_field fs i) → In t p (nth_field (set fs n (span a b)) i)
    earlier y w = let ne : i ≡ n → ⊥ = λ e. omega (arith, e) in rw (get_or-set_other fs n i (span a b) (span 0 0) ne) w

    last : i ≡ n → In t p (nth_field (set fs n (span a b)) i)
    last e = rw (e, get_or-set_same fs n (span a b) (span 0 0) h) (l, m)

-- all fields are read
whole : (t : Bytes) (p : ℕ) (fs : List Field) (n : ℕ) → ((base : ℕ) → fields_at base t p ≡ fields_from base t fs 0 n)
    → (base : ℕ) → fields_from base t fs 0 (min kept_fields n) ≡ take kept_fields (fields (base + p) (drop p t))
unfolding fields_at
whole t p fs n h base = rw (h base, fields-take base t fs kept_fields 0 n)

-- the field at q ends at e
module _ (t : Bytes) (p : ℕ) (fs : List Field) (n q e : ℕ) (k : n < kept_fields) (h : length fs ≡ 12)
    (r : Reading t p fs n q) (x : e ≡ stop_at 10 9 t q) where
  stored : (base : ℕ) → fields_at base t p ≡ fields_from base t (set fs n (span q (e - q))) 0 (n + 1) ++ more_at base t e
  stored base =
      let w = field-more base t fs n q (e - q) (omega arith) in
      r.is base ∙ rw (fields-first base t q e x, w) (sym (append_assoc (fields_from base t fs 0 n) (field base t q (e - q) ∷ []) (more_at base t e)))

  after : q ≤ e
  after = stop-after 10 9 t q e x

  within : e ≤ p + (length t - p)
  within = omega (arith, stop-most 10 9 t q e x, r.from, r.most)

  stored-inside : Inside t p (set fs n (span q (e - q))) (n + 1)
  stored-inside = inside-more t p fs n q (e - q) (omega arith) r.inside r.from (omega (arith, after, within))

  ended : line_end t e ≡ line_end t p
  ended = line-stop 9 t q e x ∙ r.end

  pub go_on : e < length t → (get_or t e 0 ≡ 10 → ⊥) → Reading t p (set fs n (span q (e - q))) (n + 1) (e + 1)
  go_on l y = record {
    is = λ base. stored base ∙ rw (more-tab base t e l y);
    inside = stored-inside;
    end = sym (line_step t e l y) ∙ ended;
    from = omega (arith, after, r.from);
    most = omega arith;
  }

  pub ends : e < length t → get_or t e 0 ≡ 10 → Fields t p (record { fields = set fs n (span q (e - q)); count = n + 1; next = e + 1 })
  unfolding line_of
  ends l y =
      let m : n + 1 ≤ kept_fields = omega arith in
      record {
        fields = rw (min-eq_right m) at (whole t p (set fs n (span q (e - q))) (n + 1) (λ base. stored base ∙ rw (more-lf base t e l y, append-nil)));
        inside = stored-inside;
        next = sym (line-hit t e l y) ∙ ended;
      }

  unclosed-at : (c : ℕ) → c ≡ min kept_fields (n + 1 + 2) → length t ≤ e
      → Fields t p (record { fields = set (set (set fs n (span q (e - q))) (n + 1) (span e 0)) (n + 1 + 1) (span e 0); count = c; next = e })
  unfolding line_of Inside
  unclosed-at c d l =
      let fs₁ = set fs n (span q (e - q)) in
      let fs₂ = set fs₁ (n + 1) (span e 0) in
      let fs₃ = set fs₂ (n + 1 + 1) (span e 0) in
      let a₁ : length fs₁ ≡ 12 = length-set fs n (span q (e - q)) ∙ h in
      let a₂ : length fs₂ ≡ 12 = length-set fs₁ (n + 1) (span e 0) ∙ a₁ in
      let w : (base : ℕ) → fields_from base t fs₂ 0 (n + 1 + 1) ≡ fields_from base t fs₁ 0 (n + 1) ++ (field base t e 0 ∷ []) = λ base. field-more base t fs₁ (n + 1) e 0 (omega arith) in
      let v : (base : ℕ) → fields_from base t fs₃ 0 (n + 1 + 1 + 1) ≡ fields_from base t fs₂ 0 (n + 1 + 1) ++ (field base t e 0 ∷ []) = λ base. field-more base t fs₂ (n + 1 + 1) e 0 (omega arith) in
      let s : n + 1 + 2 ≡ n + 1 + 1 + 1 = omega arith in
      let pe : p ≤ e = omega (arith, after, r.from) in
      let en : e + 0 ≤ p + (length t - p) = omega (arith, within) in
      let i₂ = inside-more t p fs₁ (n + 1) e 0 (omega arith) stored-inside pe en in
      let i₃ = inside-more t p fs₂ (n + 1 + 1) e 0 (omega arith) i₂ pe en in
      record {
        fields = rw d (whole t p fs₃ (n + 1 + 2) (λ base. stored base ∙ rw (more-end base t e l, s, v base, w base)
            (sym (append_assoc (fields_from base t fs₁ 0 (n + 1)) (field base t e 0 ∷ []) (field base t e 0 ∷ [])))));
        inside = λ i z. i₃ i (omega (arith, d, min-le_right kept_fields (n + 1 + 2)));
        next = sym (line-none t e l) ∙ ended;
      }

  pub unclosed : (c : ℕ) → c ≡ min kept_fields (n + 3) → length t ≤ e
      → Fields t p (record { fields = set (set (set fs n (span q (e - q))) (n + 1) (span e 0)) (n + 2) (span e 0); count = c; next = e })
  unclosed c d l = let s : n + 2 ≡ n + 1 + 1 = omega arith in rw s (unclosed-at c (d ∙ ap (min kept_fields) (omega arith)) l)

-- ten fields are read
first-fields : (t : Bytes) (p : ℕ) (fs : List Field) (n q : ℕ) → n ≡ kept_fields → ((base : ℕ) → fields_at base t p ≡ fields_from base t fs 0 n ++ fields_at base t q)
    → (base : ℕ) → fields_from base t fs 0 n ≡ take kept_fields (fields (base + p) (drop p t))
unfolding fields_at
first-fields t p fs n q e h base = rw (h base) (sym (take_at (fields_from base t fs 0 n) (fields_at base t q) kept_fields (fields-length base t fs 0 n ∙ e)))

pub filled : (t : Bytes) (p : ℕ) (fs : List Field) (n q e : ℕ) → n ≡ kept_fields → Reading t p fs n q → e ≡ line_end t q
    → Fields t p (record { fields = fs; count = kept_fields; next = e })
unfolding line_of
filled t p fs n q e h r x = rw (← h) (record { fields = first-fields t p fs n q h r.is; inside = r.inside; next = x ∙ r.end })
