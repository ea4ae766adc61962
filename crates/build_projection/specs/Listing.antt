-- The items one after the other: what is listed so far and what is left stand for all items.
use Rattle.std.specs.Prelude as std
use Rattle.std.specs.Prelude.{ℕ, zero, suc, ◌+◌, ◌-◌, ◌*◌, ◌≤◌, ◌<◌, ◌≡◌, Bool, true, drop, set}
use native.Mathlib.Omega.{arith}
use Rattle.std.proofs.Common.{add-one, sym, ◌∙◌, length-append, drop_of_length-le, take_at}
use Rattle.std.proofs.Math.Path.{refl, ap}
use Rattle.std.proofs.Math.Bool.{false}
use mathlib.Core.List.{List, [], ◌∷◌, ◌++◌, map, append_assoc, append-nil}
use Rattle.std.proofs.Math.Option.{some-injective}
use Rattle.std.proofs.Math.ListN.{length, take, length-set, length-map}
use Rattle.std.proofs.lemmas.List.Edits.{sets, sets-eq}
use Rattle.std.proofs.Math.Seq.{length-sets, length-take-le}
use Rattle.rules.specs.Limits.{most_columns}
use Rattle.rules.specs.Lists.{Bytes, entry_after}
use Rattle.rules.specs.Ast.{Item}
use Rattle.rules.specs.Plan.{Label, nameless, unqualified, qualified}
use Rattle.rules.specs.Items.{starred_column, expand_stars}
use Rattle.std.proofs.lemmas.List.{map-append}
use Rattle.ast.specs.Table.{row_size, statement_rows, starred_rows, table_size}
use Rattle.numbers.specs.declared.refusals.Refusal.{Refusal}
use Rattle.numbers.specs.Kept.{Kept}
use Rattle.numbers.specs.Kept.{kept-all, kept_on, kept-first}
use Rattle.read_expression.specs.Starred.{starred_row}
use Rattle.scope.specs.Labels.{columns_of, columns-length}
use Rattle.scope.specs.Scopes.{up_to}
use Rattle.sections.specs.Layout.{section_at}
use Rattle.sections.specs.Access.{item_kind, numbers_at}
use Rattle.statement.specs.Layout.{map_entries, to_item}
use Rattle.numbers.specs.Options.{option_of}
use Rattle.build_projection.specs.Stars.{with_columns, columns-room, columns-below, columns-back, starred_at}
use Rattle.build_projection.specs.Items.{items_at, entry_item, item_of, items-length}
use Rattle.build_projection.specs.Items.{entry-after, items-drop, sought}
use Rattle.build_projection.specs.Steps.{width_of, starred_of, limit_line, items_for, cells_with, ItemListed}
use Rattle.build_projection.specs.Terms.{Ready, chosen}
use Rattle.build_projection.specs.declared.items.Item as listed
use Rattle.build_projection.specs.declared.items.Item.TheVariants as I
use Rattle.build_projection.specs.declared.items.Listed.{Listed}

-- ENTRIES THAT ARE KEPT
-- what is stored behind the statement's rows changes no entry
entry_kept : (c q : Bytes) (cells parts ts labels x : List ℕ) → Ready c q cells parts ts labels
    → length cells ≡ table_size → Kept 0 (row_size * statement_rows) cells x → length x ≡ table_size
    → (k : ℕ) → k < length (section_at c q cells parts item_kind)
    → entry_item c q x parts k ≡ entry_item c q cells parts k
unfolding items_at
entry_kept c q cells parts ts labels x r g b l k h =
    let e : section_at c q x parts item_kind ≡ section_at c q cells parts item_kind = r.sections x b l item_kind (omega arith) in
    some-injective _ _ (sym (entry-after c q x parts l k (omega (arith, ap length e, h)))
    ∙ ap (λ es. entry_after k (map_entries to_item es)) e
    ∙ entry-after c q cells parts g k h)

-- WHAT AN ITEM STANDS FOR
unfoldable pub new_items : std.Option ℕ → Item → List Label → List Item
new_items std.None i ls = i ∷ []
new_items (std.Some l) i ls = map (starred_column l) ls

chosen-item : (b : Bool) (star : std.Option ℕ) (i : Item) (r : List Item) (ls : List Label) → option_of star ≡ sought b i
    → chosen b ls (i ∷ r) ≡ new_items star i ls ++ chosen b ls r
unfolding chosen new_items sought expand_stars
chosen-item true std.None i r ls e = rw (expand_stars, ← e)
chosen-item true (std.Some l) i r ls e = rw (expand_stars, ← e)
chosen-item false std.None i r ls e = refl
chosen-item false (std.Some l) i r ls e = grind arith

-- starred columns by their rows
starred-rows : (c q : Bytes) (x parts rs : List ℕ)
    → map (item_of c q x parts) (map I.Starred rs) ≡ map (starred_at c q x) rs
unfolding item_of
starred-rows c q x parts [] = refl
starred-rows c q x parts (r ∷ rs) = rw (starred-rows c q x parts rs)

pub up_to-length : (r w : ℕ) → length (up_to r w) ≡ w
unfolding up_to
up_to-length r zero = refl
up_to-length r (suc w) = ap suc (up_to-length (suc r) w)

-- numbers behind the first n
pub take-sets : {A : Type 0} (n : ℕ) (l vs : List A) → n + length vs ≤ length l → take (n + length vs) (sets l n vs) ≡ take n l ++ vs
take-sets n l vs h =
    let z : length (take n l ++ vs) ≡ n + length vs = length-append (take n l) vs ∙ rw (length-take-le n l (omega arith)) in
    ap (take (n + length vs)) (sets-eq vs l n h)
    ∙ take_at (take n l ++ vs) _ (n + length vs) z

-- THE STATE
-- n items are listed for the first k entries, s of them starred
pub record Listing (cells₀ parts ts labels : List ℕ) (b : Bool) (k n s : ℕ) (cells : List ℕ) (items : List listed.Item) : Type 0 where
  pub begun : length cells₀ ≡ table_size
  pub room : length cells ≡ table_size
  pub space : length items ≡ most_columns
  pub most : n ≤ most_columns
  pub starred : s ≤ n
  pub kept : Kept 0 (row_size * statement_rows) cells₀ cells
  pub holds : (c q : Bytes) → Ready c q cells₀ parts ts labels
      → (x : List ℕ) → Kept 0 (row_size * starred_row s) cells x → length x ≡ table_size
      → map (item_of c q x parts) (take n items) ++ chosen b (columns_of c q ts labels) (drop k (items_at c q cells₀ parts))
      ≡ chosen b (columns_of c q ts labels) (items_at c q cells₀ parts)

-- the items of one entry, by its star
pub record Found (c q : Bytes) (cells₀ parts ts labels : List ℕ) (b : Bool) (k : ℕ) (star : std.Option ℕ) : Type 0 where
  pub left : chosen b (columns_of c q ts labels) (drop k (items_at c q cells₀ parts))
      ≡ new_items star (entry_item c q cells₀ parts k) (columns_of c q ts labels)
      ++ chosen b (columns_of c q ts labels) (drop (suc k) (items_at c q cells₀ parts))

-- MORE THAN MAY BE
-- behind m items comes one of line l
pub record Wide (m l : ℕ) (is' : List Item) : Type 0 where
  pub first : List Item
  pub item : Item
  pub rest : List Item
  pub parts : is' ≡ first ++ (item ∷ rest)
  pub size : length first ≡ m
  pub line : item.line ≡ l

wide-behind : (xs : List Item) (n m l : ℕ) {ys : List Item} → length xs ≡ n → n ≤ m → Wide (m - n) l ys
    → Wide m l (xs ++ ys)
wide-behind xs n m l e h w = record {
  first = xs ++ w.first;
  item = w.item;
  rest = w.rest;
  parts = ap (λ r. xs ++ r) w.parts ∙ sym (append_assoc xs w.first (w.item ∷ w.rest));
  size = omega (arith, length-append xs w.first, w.size);
  line = w.line;
}

new-length : (y : std.Option ℕ) (i : Item) (ls : List Label) → length (new_items y i ls) ≡ width_of y (length ls)
unfolding new_items width_of
new-length std.None i ls = refl
new-length (std.Some l) i ls = length-map ls (starred_column l)

star-line : (l : ℕ) (x : Label) → (starred_column l x).line ≡ l
unfolding starred_column
star-line l nameless = refl
star-line l (unqualified n) = refl
star-line l (qualified t n) = refl

stars-wide : (l m : ℕ) (ls : List Label) (rest : List Item) → m < length (map (starred_column l) ls)
    → Wide m l (map (starred_column l) ls ++ rest)
stars-wide l m [] rest h = absurd (omega arith)
stars-wide l zero (x ∷ ls) rest h = record {
  first = [];
  item = starred_column l x;
  rest = map (starred_column l) ls ++ rest;
  parts = refl;
  size = refl;
  line = star-line l x;
}
stars-wide l (suc m) (x ∷ ls) rest h =
    let w = stars-wide l m ls rest (omega arith) in
    record {
      first = starred_column l x ∷ w.first;
      item = w.item;
      rest = w.rest;
      parts = ap (λ r. starred_column l x ∷ r) w.parts;
      size = ap suc w.size;
      line = w.line;
    }

new-wide : (y : std.Option ℕ) (i : Item) (ls : List Label) (rest : List Item) (m l : ℕ) → l ≡ limit_line y i.line
    → m < length (new_items y i ls) → Wide m l (new_items y i ls ++ rest)
unfolding new_items limit_line
new-wide std.None i ls rest zero l e h =
    record { first = []; item = i; rest = rest; parts = refl; size = refl; line = sym e }
new-wide std.None i ls rest (suc m) l e h = absurd (omega arith)
new-wide (std.Some k) i ls rest m l e h = rw e (stars-wide k m ls rest h)

-- what is left behind one more part
joined-lists : {A : Type 0} (xs new rest all : List A) (left : List A) → left ≡ new ++ rest → xs ++ left ≡ all
    → (xs ++ new) ++ rest ≡ all
joined-lists xs new rest all left e f = append_assoc xs new rest ∙ ap (λ r. xs ++ r) (sym e) ∙ f

module _ {cells₀ parts ts labels : List ℕ} {b : Bool} {k n s : ℕ} {cells : List ℕ} {items : List listed.Item}
    (h : Listing cells₀ parts ts labels b k n s cells items) (star : std.Option ℕ) {total : ℕ} (j : k < total)
    (m : (c q : Bytes) (x : List ℕ) → total ≡ length (section_at c q x parts item_kind))
    (t : (c q : Bytes) → option_of star ≡ sought b (entry_item c q cells parts k)) where
  found : (c q : Bytes) → Ready c q cells₀ parts ts labels → Found c q cells₀ parts ts labels b k star
  found c q r =
      let l : k < length (section_at c q cells₀ parts item_kind) = omega (arith, m c q cells₀) in
      let e = entry_kept c q cells₀ parts ts labels cells r h.begun h.kept h.room k l in
      record {
        left = ap (chosen b (columns_of c q ts labels)) (items-drop c q cells₀ parts h.begun k l)
            ∙ chosen-item b star (entry_item c q cells₀ parts k) _ (columns_of c q ts labels) (t c q ∙ ap (sought b) e);
      }

  -- an entry that is no star
  entry_more : ((c q : Bytes) → Ready c q cells₀ parts ts labels → Found c q cells₀ parts ts labels b k std.None)
      → n + 1 ≤ most_columns → Listing cells₀ parts ts labels b (suc k) (n + 1) (s + 0) cells (set items n (I.Entry k))
  unfolding new_items item_of
  entry_more f d =
      let z : s + 0 ≡ s = omega arith in
      rw z (record {
        begun = h.begun;
        room = h.room;
        space = length-set items n (I.Entry k) ∙ h.space;
        most = d;
        starred = omega (arith, h.starred);
        kept = h.kept;
        holds = λ c q r x u v.
            let l : k < length (section_at c q cells₀ parts item_kind) = omega (arith, m c q cells₀) in
            let below = kept_on h.kept (kept-first (row_size * statement_rows) u (omega arith)) in
            let i : item_of c q x parts (I.Entry k) ≡ entry_item c q cells₀ parts k =
            entry_kept c q cells₀ parts ts labels x r h.begun below v k l in
            let ks : take (n + 1) (set items n (I.Entry k)) ≡ take n items ++ (I.Entry k ∷ []) =
            take-sets n items (I.Entry k ∷ []) (omega (arith, h.space)) in
            rw (ks, map-append (item_of c q x parts) (take n items) (I.Entry k ∷ []), i)
            (joined-lists (map (item_of c q x parts) (take n items)) (entry_item c q cells₀ parts k ∷ [])
            (chosen b (columns_of c q ts labels) (drop (suc k) (items_at c q cells₀ parts))) _ _ (f c q r).left
            (h.holds c q r x u v));
      })

  -- the columns that a star stands for
  star-more : (l : ℕ)
      → ((c q : Bytes) → Ready c q cells₀ parts ts labels → Found c q cells₀ parts ts labels b k (std.Some l))
      → n + length labels ≤ most_columns
      → Listing cells₀ parts ts labels b (suc k) (n + length labels) (s + length labels)
      (with_columns cells ts s l labels) (sets items n (map I.Starred (up_to (starred_row s) (length labels))))
  unfolding new_items
  star-more l f d =
      let w = length labels in
      let rs : List listed.Item = map I.Starred (up_to (starred_row s) w) in
      let size : length rs ≡ w = length-map (up_to (starred_row s) w) I.Starred ∙ up_to-length (starred_row s) w in
      let fits : s + w ≤ starred_rows = omega (arith, h.starred) in
      record {
        begun = h.begun;
        room = columns-room labels cells ts s l fits h.room;
        space = length-sets items n rs ∙ h.space;
        most = d;
        starred = omega (arith, h.starred);
        kept = kept_on h.kept
            (kept-first (row_size * statement_rows) (columns-below labels cells ts s l) (omega arith));
        holds = λ c q r x u v.
            let e : starred_row (s + w) ≡ starred_row s + w = omega arith in
            let back = starred-rows c q x parts (up_to (starred_row s) w)
            ∙ columns-back labels cells ts s l fits h.room c q r.qualified x (rw (← e) u) in
            let below = kept_on (columns-below labels cells ts s l)
            (kept-first (row_size * starred_row s) u (omega arith)) in
            let ks : take (n + w) (sets items n rs) ≡ take n items ++ rs =
            rw size at (take-sets n items rs (omega (arith, size, h.space))) in
            rw (ks, map-append (item_of c q x parts) (take n items) rs, back)
            (joined-lists (map (item_of c q x parts) (take n items)) (map (starred_column l) (columns_of c q ts labels))
            (chosen b (columns_of c q ts labels) (drop (suc k) (items_at c q cells₀ parts))) _ _ (f c q r).left
            (h.holds c q r x below v));
      }

  -- one entry more
  pub listing-more : {line : ℕ} {cells' : List ℕ} {before after : Listed} {u : Unit {0}}
      → before.count ≡ n → before.starred ≡ s → before.items.now ≡ items
      → ItemListed cells cells' ts labels k line star before after (std.Ok u)
      → Listing cells₀ parts ts labels b (k + 1) after.count after.starred cells' after.items.now
  listing-more e f g a = rw (a.is.count, a.is.starred, a.is.rows, a.is.numbers, add-one k, e, f, g) (by-star star found (omega (arith, a.is.within, e)))
    where
      by-star : (y : std.Option ℕ) → ((c q : Bytes) → Ready c q cells₀ parts ts labels → Found c q cells₀ parts ts labels b k y)
          → n + width_of y (length labels) ≤ most_columns
          → Listing cells₀ parts ts labels b (suc k) (n + width_of y (length labels)) (s + starred_of y (length labels))
          (cells_with y cells ts s labels) (sets items n (items_for y k s (length labels)))
      by-star std.None f d = unfold width_of starred_of cells_with items_for in entry_more f d
      by-star (std.Some l) f d = unfold width_of starred_of cells_with items_for in star-more l f d

  -- one too many: the item behind the most, with its line
  pub listing-limit : {line : ℕ} {cells' : List ℕ} {before after : Listed} {x : Refusal} → before.count ≡ n
      → ItemListed cells cells' ts labels k line star before after (std.Err x)
      → line ≡ (numbers_at parts item_kind k).line
      → (c q : Bytes) → Ready c q cells₀ parts ts labels
      → Wide most_columns (limit_line star line) (chosen b (columns_of c q ts labels) (items_at c q cells₀ parts))
  unfolding entry_item numbers_at
  listing-limit {line} e a g c q d =
      let all = h.holds c q d cells (kept-all 0 _ cells) h.room in
      let f = (found c q d).left in
      let ls = columns_of c q ts labels in
      let i = entry_item c q cells₀ parts k in
      let xs = map (item_of c q cells parts) (take n items) in
      let z : length xs ≡ n = length-map (take n items) (item_of c q cells parts) ∙ length-take-le n items (omega (arith, h.most, h.space)) in
      rw (← (ap (λ r. xs ++ r) (sym f) ∙ all)) (wide-behind xs n most_columns (limit_line star line) z h.most
      (new-wide star i ls _ (most_columns - n) (limit_line star line) (ap (limit_line star) g)
      (omega (arith, a.is.beyond, e, new-length star i ls, columns-length c q ts labels, ap (width_of star) (columns-length c q ts labels)))))

-- all are listed
pub listing-end : {cells₀ parts ts labels : List ℕ} {b : Bool} {k n s total : ℕ} {cells : List ℕ} {items : List listed.Item}
    → Listing cells₀ parts ts labels b k n s cells items
    → ((c q : Bytes) (x : List ℕ) → total ≡ length (section_at c q x parts item_kind)) → total ≤ k
    → (c q : Bytes) → Ready c q cells₀ parts ts labels
    → map (item_of c q cells parts) (take n items) ≡ chosen b (columns_of c q ts labels) (items_at c q cells₀ parts)
listing-end {cells₀} {parts} {ts} {labels} {b} {k} {n} {cells = cells} {items} h m j c q r =
    let z : length (items_at c q cells₀ parts) ≤ k = omega (arith, items-length c q cells₀ parts, m c q cells₀) in
    let e : chosen b (columns_of c q ts labels) (drop k (items_at c q cells₀ parts)) ≡ [] =
    ap (chosen b (columns_of c q ts labels)) (drop_of_length-le (items_at c q cells₀ parts) z) ∙ chosen_none b _ in
    sym (append-nil (map (item_of c q cells parts) (take n items))) ∙ ap (λ r. map (item_of c q cells parts) (take n items) ++ r) (sym e)
    ∙ h.holds c q r cells (kept-all 0 _ cells) h.room
  where
    chosen_none : (b : Bool) (ls : List Label) → chosen b ls [] ≡ []
    chosen_none true ls = unfold chosen expand_stars in refl
    chosen_none false ls = unfold chosen expand_stars in refl
