-- Lines put one behind the other, and what a loop puts.
use Rattle.std.specs.Prelude.{ℕ, zero, suc, ◌+◌, ◌*◌, ◌≤◌, ◌≡◌, refl, List, [], ◌∷◌, ◌++◌, length, drop}
use Rattle.std.proofs.Common.{arith, add-one, suc-mul, zero-mul, sym, ap, ◌∙◌, append_assoc, append-nil}
use Rattle.std.proofs.Math.Seq.{drop-append-add}
use Rattle.rules.specs.Lists.{Bytes}
use Rattle.rules.specs.Print.{tabbed, show_lines}
use Rattle.listing.specs.declared.put.Writer.{Writer}
use Rattle.listing.specs.Put.{Puts, puts-none, puts-then, puts-same}
use Rattle.listing.specs.Fields.{fields, FieldsIn, fields-then, fields-same}

tabbed-fields : (f : Bytes) (fs : List Bytes) → tabbed (f ∷ fs) ≡ f ++ fields fs
unfolding tabbed fields
tabbed-fields f [] = sym (append-nil f)
tabbed-fields f (g ∷ fs) = ap (λ r. f ++ (9 ∷ r)) (tabbed-fields g fs)

lines-append : (xs ys : List (List Bytes)) → show_lines (xs ++ ys) ≡ show_lines xs ++ show_lines ys
unfolding show_lines
lines-append [] ys = refl
lines-append (x ∷ xs) ys = rw (lines-append xs ys) (sym (append_assoc (tabbed x) (10 ∷ show_lines xs) (show_lines ys)))

-- the lines that f gives of the two texts, put by a writer, which is w' then
pub record LinesIn (w w' : Writer) (f : Bytes → Bytes → List (List Bytes)) : Type 0 where
  pub puts : Puts w w' (show_lines (f w.texts.catalog.now w.texts.statement.now))

-- lines that do not depend on the texts
abbrev pub Lines : Writer → Writer → List (List Bytes) → Type 0
Lines w w' ls = LinesIn w w' (λ c q. ls)

pub lines_none : {w : Writer} → LinesIn w w (λ c q. [])
unfolding show_lines
lines_none {w} = record { puts = puts-none w }

-- a first field, the other fields, and LF
pub line : {w w₁ w₂ w₃ : Writer} {b : Bytes} {f : Bytes → Bytes → List Bytes} → Puts w w₁ b → FieldsIn w₁ w₂ f
    → Puts w₂ w₃ (10 ∷ []) → LinesIn w w₃ (λ c q. (b ∷ f c q) ∷ [])
unfolding show_lines
line {w} {w₁} {w₂} {w₃} {b} {f} h g k =
    let fs : List Bytes = f w.texts.catalog.now w.texts.statement.now in
    let e : Puts w₁ w₂ (fields fs) = puts-same g.puts (rw h.texts refl) in
    record {
      puts = puts-same (puts-then h (puts-then e k)) (sym (rw (tabbed-fields b fs) (append_assoc b (fields fs) (10 ∷ []))));
    }

pub lines_then : {w w₁ w₂ : Writer} {f g : Bytes → Bytes → List (List Bytes)} → LinesIn w w₁ f → LinesIn w₁ w₂ g
    → LinesIn w w₂ (λ c q. f c q ++ g c q)
lines_then {w} {w₁} {w₂} {f} {g} h k =
    let e : Puts w₁ w₂ (show_lines (g w.texts.catalog.now w.texts.statement.now)) =
    puts-same k.puts (rw h.puts.texts refl) in
    record { puts = puts-same (puts-then h.puts e) (sym (lines-append (f w.texts.catalog.now w.texts.statement.now) _)) }

pub lines_same : {w w' : Writer} {f g : Bytes → Bytes → List (List Bytes)} → LinesIn w w' f → ((c q : Bytes) → f c q ≡ g c q)
    → LinesIn w w' g
lines_same {w} h e = record { puts = puts-same h.puts (ap show_lines (e w.texts.catalog.now w.texts.statement.now)) }

-- LOOPS
-- what f gives for 0, 1 .. below n, one behind the other
unfoldable pub listed : {B : Type 0} → ℕ → (ℕ → List B) → List B
listed zero f = []
listed (suc n) f = listed n f ++ f n

-- n parts of w numbers each: what e gives for each, by its number and the numbers from it on
unfoldable pub each : {B : Type 0} → ℕ → ℕ → (ℕ → List ℕ → List B) → List ℕ → List B
each n w e t = listed n (λ i. e i (drop (i * w) t))

one_more : {B : Type 0} (i : ℕ) (f : ℕ → List B) → listed i f ++ f i ≡ listed (i + 1) f
unfolding listed
one_more i f = sym (rw (add-one i))

all_counted : {B : Type 0} {i n : ℕ} (f : ℕ → List B) → i ≤ n → n ≤ i → listed i f ≡ listed n f
all_counted {i = i} {n} f h l = let e : i ≡ n = omega arith in ap (λ j. listed j f) e

module _ {w w' : Writer} (f : ℕ → Bytes → Bytes → List Bytes) {i : ℕ} (h : FieldsIn w w' (λ c q. listed i (λ j. f j c q))) where
  pub fields-more : {w'' : Writer} → FieldsIn w' w'' (f i) → FieldsIn w w'' (λ c q. listed (i + 1) (λ j. f j c q))
  fields-more g = fields-same (fields-then h g) (λ c q. one_more i (λ j. f j c q))

  pub fields-all : {n : ℕ} → i ≤ n → n ≤ i → FieldsIn w w' (λ c q. listed n (λ j. f j c q))
  fields-all l m = fields-same h (λ c q. all_counted (λ j. f j c q) l m)

module _ {w w' : Writer} (f : ℕ → Bytes → Bytes → List (List Bytes)) {i : ℕ}
    (h : LinesIn w w' (λ c q. listed i (λ j. f j c q))) where
  pub lines_more : {w'' : Writer} → LinesIn w' w'' (f i) → LinesIn w w'' (λ c q. listed (i + 1) (λ j. f j c q))
  lines_more g = lines_same (lines_then h g) (λ c q. one_more i (λ j. f j c q))

  pub lines-all : {n : ℕ} → i ≤ n → n ≤ i → LinesIn w w' (λ c q. listed n (λ j. f j c q))
  lines-all l m = lines_same h (λ c q. all_counted (λ j. f j c q) l m)

-- THE FIRST OF THEM
pub listed_same : {B : Type 0} (n : ℕ) (f g : ℕ → List B) → ((i : ℕ) → f i ≡ g i) → listed n f ≡ listed n g
unfolding listed
listed_same zero f g h = refl
listed_same (suc n) f g h = rw (listed_same n f g h, h n)

pub listed-first : {B : Type 0} (n : ℕ) (f : ℕ → List B) → listed (suc n) f ≡ f 0 ++ listed n (λ i. f (suc i))
unfolding listed
listed-first zero f = sym (append-nil (f 0))
listed-first (suc n) f = rw (listed-first n f) (append_assoc (f 0) (listed n (λ i. f (suc i))) (f (suc n)))

pub each_first : {B : Type 0} (n w : ℕ) (e : ℕ → List ℕ → List B) (xs t : List ℕ) → length xs ≡ w
    → each (suc n) w e (xs ++ t) ≡ e 0 (xs ++ t) ++ each n w (λ i. e (suc i)) t
unfolding each
each_first n w e xs t h =
    listed-first n (λ i. e i (drop (i * w) (xs ++ t)))
    ∙ rw (zero-mul w) (ap (λ r. e 0 (xs ++ t) ++ r) (listed_same n _ _ λ i. ap (e (suc i)) (go i)))
  where
    go : (i : ℕ) → drop (suc i * w) (xs ++ t) ≡ drop (i * w) t
    go i =
        let k : suc i * w ≡ length xs + i * w = suc-mul i w ∙ omega arith in
        rw k (drop-append-add xs t (i * w))
