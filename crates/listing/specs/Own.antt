-- The statement's own lines and the whole listing, from the numbers of an area.
use Rattle.std.specs.Prelude.{ℕ, ◌-◌, ◌≡◌, true, false, List, [], ◌∷◌, ◌++◌, eqb, get_or, drop}
use Rattle.std.specs.Prelude.{refl, Option, Some, None, Result, Ok, Err, MatchOption, MatchResult, IsSomeAnd}
use Rattle.std.specs.Option.{unwrap_or}
use Rattle.std.specs.Result.{result_ok}
use Rattle.std.proofs.Common.{Bor, arith, sym, ap, ◌∙◌, eq-eqb, ne_eqb}
use Rattle.text.specs.Words.{words_of, push}
use Rattle.plan.specs.Kinds.{statement_number}
use Rattle.plan.specs.declared.finish.Kind.{Kind}
use Rattle.plan.specs.declared.finish.Kind.TheVariants as K
use Rattle.rules.specs.Lists.{Bytes}
use Rattle.rules.specs.Lines.{bytes}
use Rattle.rules.specs.Places.{bytes_at}
use Rattle.rules.specs.Print.{decimal_of, show_lines}
use Rattle.listing.specs.Words.{word_of, no-word}
use Rattle.listing.specs.Choices.{choose, choose-none, Misses}
use Rattle.listing.specs.Lines.{each}
use Rattle.listing.specs.Cells.{value_rest, cell_lines}
use Rattle.listing.specs.Nodes.{node_lines}

-- a word, a name and a number
unfoldable pub name_line : Bytes → Bytes → Bytes → ℕ → List ℕ → List (List Bytes)
name_line c q f n o = (f ∷ bytes_at c q (get_or o 0 0) (get_or o 1 0) ∷ decimal_of n ∷ []) ∷ []

-- a word, a table's name, its key and the source
unfoldable pub table_line : Bytes → Bytes → Bytes → ℕ → List ℕ → List (List Bytes)
table_line c q f n o = (f ∷ bytes_at c q (get_or o 0 0) (get_or o 1 0) ∷ decimal_of (get_or o 2 0) ∷ decimal_of n ∷ []) ∷ []

-- lines of a word and two numbers
unfoldable pub pair_line : Bytes → ℕ → List ℕ → List (List Bytes)
pair_line f i t = (f ∷ decimal_of (get_or t 0 0) ∷ decimal_of (get_or t 1 0) ∷ []) ∷ []

unfoldable pub pair_lines : Bytes → ℕ → List ℕ → List (List Bytes)
pair_lines f n t = each n 2 (pair_line f) t

-- an insert's column map, where there is one
unfoldable pub map_lines : ℕ → List ℕ → List (List Bytes)
map_lines x t = elim (eqb x 0) [
  | true ↦ []
  | false ↦ (bytes "columns" ∷ decimal_of (x - 1) ∷ []) ∷ pair_lines (bytes "map") (x - 1) t
]

-- a created column, and its default on the next line
unfoldable pub reference_fields : Bytes → Bytes → ℕ → ℕ → List Bytes
reference_fields c q a n = elim (eqb n 0) [ true ↦ [] | false ↦ bytes_at c q a n ∷ [] ]

unfoldable pub column_line : Bytes → Bytes → List ℕ → List (List Bytes)
column_line c q t =
    (bytes "column" ∷ bytes_at c q (get_or t 0 0) (get_or t 1 0) ∷ word_of (bytes " bool int float text ") (get_or t 2 0)
    ∷ word_of (bytes "notnull null ") (get_or t 3 0) ∷ word_of (bytes "- unique ") (get_or t 4 0)
    ∷ word_of (bytes "- index ") (get_or t 5 0) ∷ reference_fields c q (get_or t 6 0) (get_or t 7 0)) ∷ []

unfoldable pub default_line : Bytes → Bytes → List ℕ → List (List Bytes)
default_line c q t =
    (word_of (bytes "nodefault null bool int float text ") (get_or t 0 0) ∷ value_rest c q (get_or t 0 0) t) ∷ []

unfoldable pub column_lines : Bytes → Bytes → ℕ → List ℕ → List (List Bytes)
column_lines c q i t = column_line c q t ++ default_line c q (drop 8 t)

unfoldable pub columns_lines : Bytes → Bytes → ℕ → List ℕ → List (List Bytes)
columns_lines c q n t = each n 12 (column_lines c q) t

unfoldable pub drop_line : Bytes → Bytes → List ℕ → List (List Bytes)
drop_line c q o =
    (bytes "drop" ∷ bytes_at c q (get_or o 0 0) (get_or o 1 0) ∷ word_of (bytes "no yes ") (get_or o 2 0) ∷ []) ∷ []

unfoldable pub create_lines : Bytes → Bytes → List ℕ → List (List Bytes)
create_lines c q o = name_line c q (bytes "create") (get_or o 2 0) o ++ columns_lines c q (get_or o 3 0) (drop 4 o)

unfoldable pub insert_lines : Bytes → Bytes → ℕ → List ℕ → List (List Bytes)
insert_lines c q n o = name_line c q (bytes "insert") n o ++ map_lines (get_or o 2 0) (drop 3 o)

unfoldable pub update_lines : Bytes → Bytes → ℕ → List ℕ → List (List Bytes)
update_lines c q n o = table_line c q (bytes "update") n o ++ pair_lines (bytes "set") (get_or o 3 0) (drop 4 o)

-- by the statement's kind k, its source n and its own numbers o
unfoldable pub own_lines : Bytes → Bytes → ℕ → ℕ → List ℕ → List (List Bytes)
own_lines c q k n o = choose (
    (2, create_lines c q o)
    ∷ (3, drop_line c q o)
    ∷ (4, table_line c q (bytes "delete") n o)
    ∷ (5, insert_lines c q n o)
    ∷ (6, update_lines c q n o)
    ∷ []) k []

-- THE WHOLE
-- the word of the number of a kind of statement
unfoldable pub statement_word : ℕ → Bytes
statement_word k = word_of (bytes " select create drop delete insert update ") k

-- the word of a kind is the one at its number
unfoldable pub statement_named : Kind → Bytes
statement_named K.Select = bytes "select"
statement_named K.Create = bytes "create"
statement_named K.Drop = bytes "drop"
statement_named K.Delete = bytes "delete"
statement_named K.Insert = bytes "insert"
statement_named K.Update = bytes "update"

statement-words : (kind : Kind) → statement_named kind ≡ statement_word (statement_number kind)
unfolding statement_named statement_word bytes words_of push
statement-words K.Select = refl
statement-words K.Create = refl
statement-words K.Drop = refl
statement-words K.Delete = refl
statement-words K.Insert = refl
statement-words K.Update = refl

pub statement-is : (k : ℕ) (kind : Kind) → k ≡ statement_number kind → statement_named kind ≡ statement_word k
statement-is k kind e = statement-words kind ∙ ap statement_word (sym e)

-- and there is none where no kind has the number
pub statement-none : (k : ℕ) → ((kind : Kind) → k ≡ statement_number kind → ⊥) → [] ≡ statement_word k
unfolding statement_word bytes words_of push
statement-none k n = no-word (bytes " select create drop delete insert update ") 7 k refl (omega arith)
    (λ y. omega (arith, y, n K.Select, n K.Create, n K.Drop, n K.Delete, n K.Insert, n K.Update))

unfoldable pub header_line : List ℕ → List (List Bytes)
header_line a =
    (bytes "plan" ∷ statement_word (get_or a 1 0) ∷ decimal_of (get_or a 3 0)
    ∷ decimal_of (get_or a 2 0) ∷ []) ∷ []

unfoldable pub area_lines : Bytes → Bytes → List ℕ → List (List Bytes)
area_lines c q a =
    header_line a
    ++ (cell_lines c q a ++ (node_lines c q a ++ own_lines c q (get_or a 1 0) (get_or a 3 0 - 1) (drop (get_or a 4 0) a)))

-- what an area lists
unfoldable pub show_area : Bytes → Bytes → List ℕ → Bytes
show_area c q a = show_lines (area_lines c q a)

-- WHERE THERE IS ONE
pub map-none : (x : ℕ) (t : List ℕ) → x ≡ 0 → [] ≡ map_lines x t
unfolding map_lines
map-none x t h = rw (map_lines, eq-eqb x 0 h)

pub map-some : (x : ℕ) (t : List ℕ) → (x ≡ 0 → ⊥)
    → (bytes "columns" ∷ decimal_of (x - 1) ∷ []) ∷ pair_lines (bytes "map") (x - 1) t ≡ map_lines x t
unfolding map_lines
map-some x t h = rw (map_lines, ne_eqb x 0 h)

pub reference-none : (c q : Bytes) (a n : ℕ) → n ≡ 0 → [] ≡ reference_fields c q a n
unfolding reference_fields
reference-none c q a n h = rw (reference_fields, eq-eqb n 0 h)

pub reference-some : (c q : Bytes) (a n : ℕ) → (n ≡ 0 → ⊥) → bytes_at c q a n ∷ [] ≡ reference_fields c q a n
unfolding reference_fields
reference-some c q a n h = rw (reference_fields, ne_eqb n 0 h)

-- BY THE KIND of the statement
-- the word of a kind, and the empty word of none
unfoldable pub word_of_kind : Option Kind → Bytes
word_of_kind None = []
word_of_kind (Some kind) = statement_named kind

pub kind-mapped : (kind : Option Kind) (r : Option (Bor (List ℕ))) (d : Bor (List ℕ))
    → MatchOption kind (r ≡ None) (λ x. IsSomeAnd r (λ w. w.now ≡ statement_named x)) → {w : Bor (List ℕ)} → w ≡ unwrap_or r d → d.now ≡ []
    → w.now ≡ word_of_kind kind
unfolding word_of_kind
kind-mapped None r d h e z = rw (e, h) z
kind-mapped (Some kind) (Some x) d h e z = rw e h
kind-mapped (Some kind) None d h e z = absurd h

-- the first line by the kind
unfoldable pub header_of : Option Kind → List ℕ → List (List Bytes)
header_of kind a = (bytes "plan" ∷ word_of_kind kind ∷ decimal_of (get_or a 3 0) ∷ decimal_of (get_or a 2 0) ∷ []) ∷ []

-- the kind that has the number n, if one has
unfoldable pub KindOf : ℕ → Option Kind → Type 0
KindOf n None = (kind : Kind) → n ≡ statement_number kind → ⊥
KindOf n (Some kind) = n ≡ statement_number kind

pub kind-of : {E : Type 0} (n : ℕ) (r : Result Kind E) {o : Option Kind}
    → MatchResult r (λ kind. n ≡ statement_number kind) (λ e. (kind : Kind) → n ≡ statement_number kind → ⊥) → o ≡ result_ok r → KindOf n o
unfolding KindOf
kind-of n (Ok kind) h e = rw e h
kind-of n (Err x) h e = rw e h

word-of : (n : ℕ) (kind : Option Kind) → KindOf n kind → word_of_kind kind ≡ statement_word n
unfolding KindOf word_of_kind
word-of n None h = statement-none n h
word-of n (Some kind) h = statement-is n kind h

pub header-is : (a : List ℕ) (kind : Option Kind) → KindOf (get_or a 1 0) kind → header_of kind a ≡ header_line a
unfolding header_of header_line
header-is a kind h = rw (word-of (get_or a 1 0) kind h)

pub own-none : (c q : Bytes) (k n : ℕ) (o : List ℕ) → ((kind : Kind) → k ≡ statement_number kind → ⊥) → [] ≡ own_lines c q k n o
unfolding own_lines Misses
own-none c q k n o h = choose-none _ _ _ (h K.Create, (h K.Drop, (h K.Delete, (h K.Insert, (h K.Update, tt)))))

-- WHAT THE CODE PUTS
module _ (c q f : Bytes) (o : List ℕ) {x y : ℕ} (e : x ≡ get_or o 0 0) (g : y ≡ get_or o 1 0) where
  pub name-same : (n : ℕ) → (f ∷ bytes_at c q x y ∷ decimal_of n ∷ []) ∷ [] ≡ name_line c q f n o
  unfolding name_line
  name-same n = rw (e, g)

  pub table_same : {z : ℕ} (n : ℕ) → z ≡ get_or o 2 0
      → (f ∷ bytes_at c q x y ∷ decimal_of z ∷ decimal_of n ∷ []) ∷ [] ≡ table_line c q f n o
  unfolding table_line
  table_same n h = rw (e, g, h)

pub pair_same : (f : Bytes) (i : ℕ) (t : List ℕ) {x y : ℕ} → x ≡ get_or t 0 0 → y ≡ get_or t 1 0
    → (f ∷ decimal_of x ∷ decimal_of y ∷ []) ∷ [] ≡ pair_line f i t
unfolding pair_line
pair_same f i t e g = rw (e, g)

pub column-line-same : (c q : Bytes) (t : List ℕ) {x y k n u v a m : ℕ} → x ≡ get_or t 0 0 → y ≡ get_or t 1 0 → k ≡ get_or t 2 0
    → n ≡ get_or t 3 0 → u ≡ get_or t 4 0 → v ≡ get_or t 5 0 → a ≡ get_or t 6 0 → m ≡ get_or t 7 0
    → (bytes "column" ∷ bytes_at c q x y ∷ word_of (bytes " bool int float text ") k ∷ word_of (bytes "notnull null ") n
    ∷ word_of (bytes "- unique ") u ∷ word_of (bytes "- index ") v ∷ reference_fields c q a m) ∷ [] ≡ column_line c q t
unfolding column_line
column-line-same c q t e1 e2 e3 e4 e5 e6 e7 e8 = rw (e1, e2, e3, e4, e5, e6, e7, e8)

pub drop-same : (c q : Bytes) (o : List ℕ) {x y z : ℕ} → x ≡ get_or o 0 0 → y ≡ get_or o 1 0 → z ≡ get_or o 2 0
    → (bytes "drop" ∷ bytes_at c q x y ∷ word_of (bytes "no yes ") z ∷ []) ∷ [] ≡ drop_line c q o
unfolding drop_line
drop-same c q o e f g = rw (e, f, g)

pub default-same : (c q : Bytes) (t : List ℕ) {k : ℕ} {w : Bytes} → k ≡ get_or t 0 0
    → w ≡ word_of (bytes "nodefault null bool int float text ") k → (w ∷ value_rest c q k t) ∷ [] ≡ default_line c q t
unfolding default_line
default-same c q t e f = rw (f, e)

pub column-same : (c q : Bytes) (i : ℕ) (t : List ℕ) {u : List ℕ} → u ≡ drop 8 t
    → column_line c q t ++ default_line c q u ≡ column_lines c q i t
unfolding column_lines
column-same c q i t e = rw e

pub create-same : (c q : Bytes) (o : List ℕ) {k n : ℕ} {t : List ℕ} → k ≡ get_or o 2 0 → n ≡ get_or o 3 0 → t ≡ drop 4 o
    → name_line c q (bytes "create") k o ++ columns_lines c q n t ≡ create_lines c q o
unfolding create_lines
create-same c q o e f g = rw (e, f, g)

pub insert-same : (c q : Bytes) (n : ℕ) (o : List ℕ) {x : ℕ} {t : List ℕ} → x ≡ get_or o 2 0 → t ≡ drop 3 o
    → name_line c q (bytes "insert") n o ++ map_lines x t ≡ insert_lines c q n o
unfolding insert_lines
insert-same c q n o e f = rw (e, f)

pub update_same : (c q : Bytes) (n : ℕ) (o : List ℕ) {x : ℕ} {t : List ℕ} → x ≡ get_or o 3 0 → t ≡ drop 4 o
    → table_line c q (bytes "update") n o ++ pair_lines (bytes "set") x t ≡ update_lines c q n o
unfolding update_lines
update_same c q n o e f = rw (e, f)

pub header-same : (a : List ℕ) {x y z : ℕ} → x ≡ get_or a 1 0 → y ≡ get_or a 3 0 → z ≡ get_or a 2 0
    → (bytes "plan" ∷ word_of (bytes " select create drop delete insert update ") x ∷ decimal_of y ∷ decimal_of z ∷ []) ∷ []
    ≡ header_line a
unfolding header_line statement_word
header-same a e f g = rw (e, f, g)

pub area_same : (c q : Bytes) (a : List ℕ) {k n m p : ℕ} {o : List ℕ} → k ≡ get_or a 1 0 → n ≡ get_or a 3 0 → m ≡ n - 1
    → p ≡ get_or a 4 0 → o ≡ drop p a
    → header_line a ++ (cell_lines c q a ++ (node_lines c q a ++ own_lines c q k m o)) ≡ area_lines c q a
unfolding area_lines
area_same c q a e f g h k = rw (k, h, g, f, e)
