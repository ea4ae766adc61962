-- The row of an item and the place of its alias, by what is listed.
use Rattle.std.specs.Prelude.{ℕ, ◌≤◌, ◌<◌, ◌≡◌, refl, Bool, true, false, List, [], ◌∷◌, ltb, length}
use Rattle.std.proofs.Common.{ap, sym, ◌∙◌}
use Rattle.rules.specs.Lists.{Bytes}
use Rattle.rules.specs.Places.{bytes_at, word_at}
use Rattle.rules.specs.Area.{span, option_span}
use Rattle.ast.specs.Names.{option_name}
use Rattle.ast.specs.Table.{tree_at}
use Rattle.sections.specs.Access.{item_kind, numbers_at}
use Rattle.sections.specs.Expressions.{expr_row}
use Rattle.sections.specs.declared.entry.Entry.{Entry}
use Rattle.std.specs.Prelude as std
use Rattle.text.specs.declared.places.Place.{Place}
use Rattle.text.specs.Places.{option_numbers, clipped_place}
use Rattle.statement.specs.Access.{name_or}
use Rattle.statement.specs.EntryAccess.{word_of}
use Rattle.build_projection.specs.Stars.{starred_at}
use Rattle.build_projection.specs.declared.items.Item.{Item}
use Rattle.build_projection.specs.declared.items.Item.TheVariants as I
use Rattle.build_projection.specs.Items.{entry_item, item_of}

unfoldable pub row_of : List ℕ → Item → ℕ
row_of parts (I.Entry k) = expr_row (numbers_at parts item_kind k)
row_of parts (I.Starred r) = r

-- the address of its alias, and how many bytes of it there are; 0 0 where it has none
unfoldable pub alias_address : List ℕ → Item → ℕ
alias_address parts (I.Entry k) = (name_or (numbers_at parts item_kind k).name).address
alias_address parts (I.Starred r) = 0

unfoldable pub alias_length : Bytes → Bytes → List ℕ → Item → ℕ
alias_length c q parts (I.Entry k) = length (word_of c q (numbers_at parts item_kind k)).bytes
alias_length c q parts (I.Starred r) = 0

-- the place of its alias, as many bytes of it as there are
unfoldable pub alias_place : Bytes → Bytes → List ℕ → Item → std.Option Place
alias_place c q parts (I.Entry k) = clipped_place c q (numbers_at parts item_kind k).name
alias_place c q parts (I.Starred r) = std.None

-- its expression is the tree at its row
pub item-tree : (c q : Bytes) (cells parts : List ℕ) (x : Item)
    → (item_of c q cells parts x).expr ≡ tree_at c q cells (row_of parts x)
unfolding item_of row_of entry_item starred_at
item-tree c q cells parts (I.Entry k) = refl
item-tree c q cells parts (I.Starred r) = refl

module _ (parts : List ℕ) {x : Item} where
  pub row-starred : {r : ℕ} → x ≡ I.Starred r → r ≡ row_of parts x
  unfolding row_of
  row-starred h = rw h

  pub place-starred : (c q : Bytes) {r : ℕ} → x ≡ I.Starred r → std.None ≡ alias_place c q parts x
  unfolding alias_place
  place-starred c q h = rw h

  module _ {k : ℕ} (h : x ≡ I.Entry k) (e : Entry) (g : e ≡ numbers_at parts item_kind k) where
    pub row-entry : (r : ℕ) → r ≡ expr_row e → r ≡ row_of parts x
    unfolding row_of
    row-entry r f = rw (h, ← g) f

    pub place-entry : (c q : Bytes) {o : std.Option Place} → o ≡ clipped_place c q e.name → o ≡ alias_place c q parts x
    unfolding alias_place
    place-entry c q f = rw (h, ← g) f

-- the place of its alias, as a plan has it
entry-span : (c q : Bytes) (o : std.Option Place)
    → option_span (option_name c q o) ≡ (name_or o).address ∷ length (word_at c q (name_or o).address (name_or o).length).bytes ∷ []
unfolding option_span span word_at bytes_at option_name name_or
entry-span c q std.None = refl
entry-span c q (std.Some p) = refl

entry_numbers : (c q : Bytes) (o : std.Option Place) → option_numbers (clipped_place c q o)
    ≡ (name_or o).address ∷ length (word_at c q (name_or o).address (name_or o).length).bytes ∷ []
unfolding word_at bytes_at clipped_place name_or
entry_numbers c q std.None = refl
entry_numbers c q (std.Some p) = refl

pub alias-numbers : (c q : Bytes) (parts : List ℕ) (x : Item)
    → option_numbers (alias_place c q parts x) ≡ alias_address parts x ∷ alias_length c q parts x ∷ []
unfolding alias_place alias_address alias_length
alias-numbers c q parts (I.Entry k) = entry_numbers c q (numbers_at parts item_kind k).name
alias-numbers c q parts (I.Starred r) = refl

module _ (c q : Bytes) (parts : List ℕ) (x : Item) {o : std.Option Place} (f : o ≡ alias_place c q parts x) where
  pub alias-some : {p : Place} → o ≡ std.Some p → (p.address ≡ alias_address parts x) × (p.length ≡ alias_length c q parts x)
  alias-some {p} e =
      let y : p.address ∷ p.length ∷ [] ≡ alias_address parts x ∷ alias_length c q parts x ∷ [] =
      sym (ap option_numbers e) ∙ ap option_numbers f ∙ alias-numbers c q parts x in
      (cc, cc)

  pub alias-none : o ≡ std.None → alias_length c q parts x ≡ 0
  alias-none e =
      let y : 0 ∷ 0 ∷ [] ≡ alias_address parts x ∷ alias_length c q parts x ∷ [] =
      sym (ap option_numbers e) ∙ ap option_numbers f ∙ alias-numbers c q parts x in
      cc

pub alias-span : (c q : Bytes) (cells parts : List ℕ) (x : Item)
    → option_span (item_of c q cells parts x).alias ≡ alias_address parts x ∷ alias_length c q parts x ∷ []
unfolding item_of entry_item starred_at alias_address alias_length option_span
alias-span c q cells parts (I.Entry k) = entry-span c q (numbers_at parts item_kind k).name
alias-span c q cells parts (I.Starred r) = refl
