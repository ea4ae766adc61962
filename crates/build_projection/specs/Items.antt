-- The items of a SELECT: entries, and starred columns behind the statement's rows.
use Rattle.std.specs.Prelude as std
use Rattle.std.specs.Prelude.{ℕ, zero, suc, ◌+◌, ◌≤◌, ◌<◌, ◌≡◌, Bool, true, false, ◌&&◌, ltb, eqb, get_or, drop}
use Rattle.std.proofs.Common.{arith, add-one, ◌∙◌, drop_of_length-le}
use Rattle.std.proofs.Math.Path.{refl, sym, ap, subst}
use mathlib.Core.List.{List, [], ◌∷◌}
use Rattle.std.proofs.Math.Option.{Option, none, some}
use Rattle.std.proofs.Math.ListN.{length}
use borrow.Author.Tests.{eq-eqb, ne_eqb}
use Rattle.rules.specs.Lists.{Bytes, entry_after}
use Rattle.rules.specs.Ast.{Expr, Item}
use Rattle.rules.specs.Lines.{Word}
use Rattle.rules.specs.Views.{as_star}
use Rattle.rules.specs.Items.{plain_star}
use Rattle.ast.specs.Table.{table_size, tree_at}
use Rattle.ast.specs.Row.{line_at, number_of, tree_of, row-tree}
use Rattle.ast.specs.Operands.{kind_at}
use Rattle.ast.specs.Names.{option_name}
use Rattle.text.specs.declared.places.Place.{Place}
use Rattle.ast.specs.declared.row.Kind.{Kind}
use Rattle.ast.specs.declared.row.Kind.TheVariants as K
use Rattle.sections.specs.Layout.{start_of, section_at}
use Rattle.sections.specs.Access.{item_kind, group_kind, numbers_at, after-drop, section-count}
use Rattle.sections.specs.Expressions.{expr_row}
use Rattle.sections.specs.declared.entry.Entry.{Entry}
use Rattle.statement.specs.Layout.{map_entries, to_item}
use Rattle.statement.specs.EntryAccess.{item-at, map-length}
use Rattle.numbers.specs.Options.{option_of}
use Rattle.build_projection.specs.Stars.{starred_at}
use Rattle.build_projection.specs.declared.items.Item as listed
use Rattle.build_projection.specs.declared.items.Item.TheVariants as I

-- the statement's items
unfoldable pub items_at : Bytes → Bytes → List ℕ → List ℕ → List Item
items_at c q cells parts = map_entries to_item (section_at c q cells parts item_kind)

-- entry k as an item
unfoldable pub entry_item : Bytes → Bytes → List ℕ → List ℕ → ℕ → Item
entry_item c q cells parts k = record {
  line = (numbers_at parts item_kind k).line;
  expr = tree_at c q cells (expr_row (numbers_at parts item_kind k));
  alias = option_name c q (numbers_at parts item_kind k).name;
}

-- what is listed: an entry, or a starred column by its row
unfoldable pub item_of : Bytes → Bytes → List ℕ → List ℕ → listed.Item → Item
item_of c q cells parts (I.Entry k) = entry_item c q cells parts k
item_of c q cells parts (I.Starred r) = starred_at c q cells r

module _ (c q : Bytes) (cells parts : List ℕ) where
  pub items-length : length (items_at c q cells parts) ≡ length (section_at c q cells parts item_kind)
  unfolding items_at
  items-length = map-length to_item (section_at c q cells parts item_kind)

  pub entry-after : length cells ≡ table_size → (k : ℕ) → k < length (section_at c q cells parts item_kind)
      → entry_after k (items_at c q cells parts) ≡ some (entry_item c q cells parts k)
  unfolding items_at entry_item
  entry-after g k h = item-at c q cells parts item_kind k (numbers_at parts item_kind k) refl h (omega arith)

  -- entry k comes first in what is left behind k items
  pub items-drop : length cells ≡ table_size → (k : ℕ) → k < length (section_at c q cells parts item_kind)
      → drop k (items_at c q cells parts) ≡ entry_item c q cells parts k ∷ drop (suc k) (items_at c q cells parts)
  items-drop g k h = after-drop k (items_at c q cells parts) (entry_item c q cells parts k) (entry-after g k h)

-- STARS
-- a row is a star by its kind
unfoldable pub star_by : Kind → ℕ → Option ℕ
star_by K.Star l = some l
star_by K.Column l = none
star_by K.Qualified l = none
star_by K.Call l = none
star_by K.Unary l = none
star_by K.Binary l = none
star_by K.Is l = none
star_by K.Literal l = none

star-tree : (f : ℕ → Expr) (k : Kind) (c q : Bytes) (t : List ℕ) (r : ℕ)
    → as_star (tree_of f k c q t r) ≡ star_by k (line_at t r)
unfolding as_star tree_of star_by
star-tree f K.Star c q t r = refl
star-tree f K.Column c q t r = refl
star-tree f K.Qualified c q t r = refl
star-tree f K.Call c q t r = refl
star-tree f K.Unary c q t r = refl
star-tree f K.Binary c q t r = refl
star-tree f K.Is c q t r = refl
star-tree f K.Literal c q t r = refl

star-none : (k : Kind) (l : ℕ) → (k ≡ K.Star → ⊥) → star_by k l ≡ none
unfolding star_by
star-none K.Star l h = absurd (h refl)
star-none K.Column l h = refl
star-none K.Qualified l h = refl
star-none K.Call l h = refl
star-none K.Unary l h = refl
star-none K.Binary l h = refl
star-none K.Is l h = refl
star-none K.Literal l h = refl

module _ (t : List ℕ) (r : ℕ) (k : Kind) (h : number_of k ≡ kind_at t r) where
  by_kind : (c q : Bytes) → star_by k (line_at t r) ≡ as_star (tree_at c q t r)
  by_kind c q = sym (ap as_star (row-tree c q t r k h) ∙ star-tree (tree_at c q t) k c q t r)

  pub star-is : (l : ℕ) → l ≡ line_at t r → k ≡ K.Star → (c q : Bytes) → option_of (std.Some l) ≡ as_star (tree_at c q t r)
  unfolding star_by
  star-is l e z c q = rw (e, ← by_kind c q, z)

  pub star-not : (k ≡ K.Star → ⊥) → (c q : Bytes) → option_of std.None ≡ as_star (tree_at c q t r)
  star-not g c q = sym (star-none k (line_at t r) g) ∙ by_kind c q

-- THE FIRST STAR WITH NO ALIAS
-- the star of an item, where stars are expanded
unfoldable pub sought : Bool → Item → Option ℕ
sought b i = elim b [ true ↦ as_star i.expr | false ↦ none ]

plain-alone : (i : Item) → i.alias ≡ none → plain_star (i ∷ []) ≡ as_star i.expr
unfolding plain_star
plain-alone i e = rw (plain_star, e) (go (as_star i.expr))
  where
    go : (o : Option ℕ) → ◌≡◌ {A = Option ℕ} (elim o [ some l ↦ some l | none ↦ none ]) o
    go none = refl
    go (some l) = refl

-- entry k by its numbers e
module _ (cells parts : List ℕ) (k : ℕ) (e : Entry) (h : e ≡ numbers_at parts item_kind k) where
  pub plain-aliased : {p : Place} → e.name ≡ std.Some p → (c q : Bytes)
      → option_of std.None ≡ plain_star (entry_item c q cells parts k ∷ [])
  unfolding plain_star entry_item option_name
  plain-aliased g c q = rw (plain_star, ← h, g)

  module _ (x : std.Option ℕ) (r : ℕ) (f : r ≡ expr_row e) (t : (c q : Bytes) → option_of x ≡ as_star (tree_at c q cells r)) where
    pub plain-free : e.name ≡ std.None → (c q : Bytes) → option_of x ≡ plain_star (entry_item c q cells parts k ∷ [])
    unfolding entry_item option_name
    plain-free g c q =
        t c q ∙ ap (λ i. as_star (tree_at c q cells i)) (f ∙ ap expr_row h)
        ∙ sym (plain-alone (entry_item c q cells parts k) (rw (← h, g)))

    pub sought-is : (b : Bool) → b ≡ true → (c q : Bytes) → option_of x ≡ sought b (entry_item c q cells parts k)
    unfolding sought entry_item
    sought-is b g c q = rw (g, ← h) (t c q ∙ ap (λ i. as_star (tree_at c q cells i)) f)

-- item x, by its kind
module _ (cells parts : List ℕ) (x : listed.Item) (s : std.Option ℕ) where
  pub plain-before : {k : ℕ} → x ≡ I.Entry k → ((c q : Bytes) → option_of s ≡ plain_star (entry_item c q cells parts k ∷ []))
      → (c q : Bytes) → option_of s ≡ plain_star (item_of c q cells parts x ∷ [])
  unfolding item_of
  plain-before e t c q = rw e (t c q)

  pub plain-behind : {r : ℕ} → x ≡ I.Starred r → ((c q : Bytes) → option_of s ≡ as_star (tree_at c q cells r))
      → (c q : Bytes) → option_of s ≡ plain_star (item_of c q cells parts x ∷ [])
  unfolding item_of starred_at
  plain-behind {r} e t c q = rw e (t c q ∙ sym (plain-alone (starred_at c q cells r) refl))

pub sought-not : (b : Bool) → b ≡ false → (i : Item) → option_of std.None ≡ sought b i
unfolding sought
sought-not b g i = rw g

first-none : (i : Item) (r : List Item) → plain_star (i ∷ []) ≡ none → plain_star (i ∷ r) ≡ plain_star r
unfolding plain_star
first-none i r h = by-alias i.alias refl
  where
    by-star : (o : Option ℕ) → ◌≡◌ {A = Option ℕ} (elim o [ some l ↦ some l | none ↦ none ]) none
        → ◌≡◌ {A = Option ℕ} (elim o [ some l ↦ some l | none ↦ plain_star r ]) (plain_star r)
    by-star none e = refl
    by-star (some l) e = grind arith

    by-alias : (a : Option Word) → i.alias ≡ a → plain_star (i ∷ r) ≡ plain_star r
    by-alias (some w) e = rw (plain_star, e)
    by-alias none e = rw (plain_star, e) (by-star (as_star i.expr) (rw (plain_star, e) at h))

first_some : (i : Item) (r : List Item) (l : ℕ) → plain_star (i ∷ []) ≡ some l → plain_star (i ∷ r) ≡ some l
unfolding plain_star
first_some i r l h = by-alias i.alias refl
  where
    by-star : (o : Option ℕ) → ◌≡◌ {A = Option ℕ} (elim o [ some m ↦ some m | none ↦ none ]) (some l)
        → ◌≡◌ {A = Option ℕ} (elim o [ some m ↦ some m | none ↦ plain_star r ]) (some l)
    by-star none e = grind arith
    by-star (some m) e = e

    by-alias : (a : Option Word) → i.alias ≡ a → plain_star (i ∷ r) ≡ some l
    by-alias (some w) e = absurd (let z : ◌≡◌ {A = Option ℕ} none (some l) = rw (plain_star, e) at h in grind arith)
    by-alias none e = rw (plain_star, e) (by-star (as_star i.expr) (rw (plain_star, e) at h))

-- what the items from k on decide
pub record Seeking (cells parts : List ℕ) (k : ℕ) : Type 0 where
  pub rest : (c q : Bytes) → plain_star (drop k (items_at c q cells parts)) ≡ plain_star (items_at c q cells parts)

module _ {cells parts : List ℕ} {k n : ℕ} (s : Seeking cells parts k) (g : length cells ≡ table_size)
    (m : (c q : Bytes) (x : List ℕ) → n ≡ length (section_at c q x parts item_kind)) where
  here : k < n → (c q : Bytes)
      → drop k (items_at c q cells parts) ≡ entry_item c q cells parts k ∷ drop (suc k) (items_at c q cells parts)
  here h c q = items-drop c q cells parts g k (omega (arith, m c q cells))

  module _ (x : std.Option ℕ) (h : k < n) (t : (c q : Bytes) → option_of x ≡ plain_star (entry_item c q cells parts k ∷ [])) where
    pub seek_hit : (l : ℕ) → x ≡ std.Some l → (c q : Bytes) → option_of (std.Some l) ≡ plain_star (items_at c q cells parts)
    seek_hit l e c q = sym (sym (s.rest c q) ∙ ap plain_star (here h c q)
        ∙ first_some _ _ l (sym (t c q) ∙ ap option_of e))

    pub seek-miss : x ≡ std.None → Seeking cells parts (k + 1)
    seek-miss e = record {
      rest = λ c q. rw (add-one k) (sym (first-none _ _ (sym (t c q) ∙ ap option_of e)) ∙ sym (ap plain_star (here h c q))
          ∙ s.rest c q);
    }

  pub seek-end : n ≤ k → (c q : Bytes) → option_of std.None ≡ plain_star (items_at c q cells parts)
  unfolding plain_star
  seek-end h c q =
      let z : length (items_at c q cells parts) ≤ k = omega (arith, items-length c q cells parts, m c q cells) in
      sym (ap plain_star (drop_of_length-le (items_at c q cells parts) z)) ∙ s.rest c q

module _ (cells parts : List ℕ) where
  -- entry k is a star with no alias, or it is none
  abbrev pub Plain : ℕ → std.Option ℕ → Type 0
  Plain k x = (c q : Bytes) → option_of x ≡ plain_star (entry_item c q cells parts k ∷ [])

  start : Seeking cells parts 0
  start = record { rest = λ c q. refl }

  module _ {n : ℕ} (g : length cells ≡ table_size)
      (m : (c q : Bytes) (x : List ℕ) → n ≡ length (section_at c q x parts item_kind)) where
    seek-past : (d : ℕ) {k i : ℕ} → k + d ≡ i → i ≤ n → ((j : ℕ) → 0 ≤ j → j < i → Plain j std.None)
        → Seeking cells parts k → Seeking cells parts i
    seek-past zero {k} {i} e l h s = let z : k ≡ i = omega arith in subst (Seeking cells parts) z s
    seek-past (suc d) {k} e l h s =
        seek-past d (omega arith) l h (seek-miss s g m std.None (omega arith) (h k (omega arith) (omega arith)) refl)

    pub seek-first : (r : std.Option ℕ)
        → std.MatchOption r ((j : ℕ) → 0 ≤ j → j < n → Plain j std.None)
        (λ l. (i : ℕ) × (0 ≤ i) × (i < n) × Plain i (std.Some l) × ((j : ℕ) → 0 ≤ j → j < i → Plain j std.None))
        → (c q : Bytes) → option_of r ≡ plain_star (items_at c q cells parts)
    seek-first std.None h = seek-end (seek-past n (omega arith) (omega arith) h start) g m (omega arith)
    seek-first (std.Some l) h =
        seek_hit (seek-past h.0 (omega arith) (omega (arith, h.2)) h.4 start) g m (std.Some l) h.2 h.3 l refl

-- ONE ITEM
-- one item and no group
unfoldable pub single : List ℕ → Bool
single parts = eqb (get_or parts (start_of item_kind) 0) 1 && eqb (get_or parts (start_of group_kind) 0) 0

module _ (parts : List ℕ) (n : ℕ) (m : (c q : Bytes) (x : List ℕ) → n ≡ length (section_at c q x parts item_kind)) where
  items-number : n ≡ get_or parts (start_of item_kind) 0
  items-number = m [] [] [] ∙ section-count [] [] [] parts item_kind

  pub single-not : (n ≡ 1 → ⊥) → eqb n 1 ≡ single parts
  unfolding single
  single-not h = rw (← items-number, ne_eqb n 1 h)

  pub single-is : n ≡ 1 → (k : ℕ) → ((c q : Bytes) (x : List ℕ) → k ≡ length (section_at c q x parts group_kind))
      → eqb k 0 ≡ single parts
  unfolding single
  single-is h k g = rw (← items-number, eq-eqb n 1 h, g [] [] [], section-count [] [] [] parts group_kind)
