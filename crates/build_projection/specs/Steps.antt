-- One item listed: an entry, or the columns that its star stands for.
use Prim.Native.Nat.{ℕ, suc, ◌+◌, ◌-◌, ◌≤◌, ◌<◌}
use native.Mathlib.Omega.{arith}
use Rattle.std.proofs.Math.Path.{◌≡◌, refl}
use Rattle.std.proofs.Common.{◌∙◌}
use Rattle.std.specs.Prelude as std
use Rattle.std.specs.Prelude.{List, [], ◌∷◌, map, length, set}
use Rattle.std.proofs.Math.ListN.{length-set}
use Rattle.std.proofs.lemmas.List.Edits.{sets}
use Rattle.rules.specs.Refusals.{limit_passed}
use Rattle.rules.specs.Limits.{most_columns}
use Rattle.read_expression.specs.Starred.{starred_row}
use Rattle.scope.specs.Scopes.{up_to}
use Rattle.numbers.specs.Reasons.{named}
use Rattle.numbers.specs.declared.refusals.Reason.TheVariants.{LimitPassed}
use Rattle.numbers.specs.declared.refusals.Refusal.{Refusal}
use Rattle.build_projection.specs.Stars.{with_columns}
use Rattle.build_projection.specs.declared.items.Item.{Item}
use Rattle.build_projection.specs.declared.items.Item.TheVariants as I
use Rattle.build_projection.specs.declared.items.Listed.{Listed}

-- how many items it is over w columns, and how many of them are starred
unfoldable pub width_of : std.Option ℕ → ℕ → ℕ
width_of std.None w = 1
width_of (std.Some l) w = w

unfoldable pub starred_of : std.Option ℕ → ℕ → ℕ
starred_of std.None w = 0
starred_of (std.Some l) w = w

-- the line at which 3 is said
unfoldable pub limit_line : std.Option ℕ → ℕ → ℕ
limit_line std.None line = line
limit_line (std.Some l) line = l

-- the items, and the rows with the starred columns
unfoldable pub items_for : std.Option ℕ → (k s w : ℕ) → List Item
items_for std.None k s w = I.Entry k ∷ []
items_for (std.Some l) k s w = map I.Starred (up_to (starred_row s) w)

unfoldable pub cells_with : std.Option ℕ → (cells ts : List ℕ) → ℕ → List ℕ → List ℕ
cells_with std.None cells ts s labels = cells
cells_with (std.Some l) cells ts s labels = with_columns cells ts s l labels

-- listed behind those before: there is room for it
pub record Listable (cells cells' ts labels : List ℕ) (k : ℕ) (star : std.Option ℕ) (before x : Listed) : Type 0 where
  pub within : before.count + width_of star (length labels) ≤ most_columns
  pub count : x.count ≡ before.count + width_of star (length labels)
  pub starred : x.starred ≡ before.starred + starred_of star (length labels)
  pub rows : cells' ≡ cells_with star cells ts before.starred labels
  pub numbers : x.items.now ≡ sets before.items.now before.count (items_for star k before.starred (length labels))

-- one too many
pub record TooMany (w line : ℕ) (star : std.Option ℕ) (n : ℕ) (x : Refusal) : Type 0 where
  pub beyond : most_columns < n + width_of star w
  pub is : x ≡ record { reason = named limit_passed; line = limit_line star line }

-- in the same lent slice
pub record ItemListed (cells cells' ts labels : List ℕ) (k line : ℕ) (star : std.Option ℕ) (before after : Listed)
    (r : std.Result (Unit {0}) Refusal) : Type 0 where
  pub same : after.items.ghost_name ≡ before.items.ghost_name
  pub is : std.MatchResult r (λ u. Listable cells cells' ts labels k star before after)
      (TooMany (length labels) line star before.count)

module _ (cells ts labels : List ℕ) (k line : ℕ) (before : Listed) where
  pub entry-limit : most_columns ≤ before.count → ItemListed cells cells ts labels k line std.None before before
      (std.Err (record { reason = LimitPassed; line = line }))
  unfolding width_of limit_line named
  entry-limit h = record { same = refl; is = record { beyond = omega arith; is = refl } }

  pub star-limit : (l : ℕ) → most_columns < before.count + length labels
      → ItemListed cells cells ts labels k line (std.Some l) before before
      (std.Err (record { reason = LimitPassed; line = l }))
  unfolding width_of limit_line named
  star-limit l h = record { same = refl; is = record { beyond = h; is = refl } }

  module _ (after : Listed) (same : after.items.ghost_name ≡ before.items.ghost_name) where
    pub entry_listed : before.count < most_columns → after.count ≡ before.count + 1 → after.starred ≡ before.starred
        → after.items.now ≡ set before.items.now before.count (I.Entry k)
        → ItemListed cells cells ts labels k line std.None before after (std.Ok tt)
    unfolding width_of starred_of cells_with items_for
    entry_listed h a b e = record {
      same = same;
      is = record { within = omega arith; count = a; starred = omega (arith, b); rows = refl; numbers = e };
    }

    pub star-listed : (l : ℕ) (cells' : List ℕ) → before.count + length labels ≤ most_columns
        → after.count ≡ before.count + length labels → after.starred ≡ before.starred + length labels
        → cells' ≡ with_columns cells ts before.starred l labels
        → after.items.now ≡ sets before.items.now before.count (map I.Starred (up_to (starred_row before.starred) (length labels)))
        → ItemListed cells cells' ts labels k line (std.Some l) before after (std.Ok tt)
    unfolding width_of starred_of cells_with items_for
    star-listed l cells' h a b e f = record {
      same = same;
      is = record { within = h; count = a; starred = b; rows = e; numbers = f };
    }

-- STARRED COLUMNS ONE AFTER THE OTHER
-- those of the w rows from first on, in the places from n on, j of them so far
pub record Filling (items₀ : List Item) (n first w j : ℕ) (items : List Item) : Type 0 where
  pub space : length items ≡ length items₀
  pub rest : sets items (n + j) (map I.Starred (up_to (first + j) (w - j))) ≡ sets items₀ n (map I.Starred (up_to first w))

module _ {items₀ : List Item} {n first w j : ℕ} {items : List Item} (h : Filling items₀ n first w j items) where
  pub filling-more : {v : Item} {i : ℕ} → v ≡ I.Starred (first + j) → i ≡ n + j → j < w → Filling items₀ n first w (j + 1) (set items i v)
  unfolding up_to
  filling-more e f g =
      let a : n + (j + 1) ≡ suc (n + j) = omega arith in
      let b : first + (j + 1) ≡ suc (first + j) = omega arith in
      let c : w - j ≡ suc (w - (j + 1)) = omega arith in
      rw (e, f) (record {
        space = length-set items (n + j) (I.Starred (first + j)) ∙ h.space;
        rest = rw (a, b) (rw c at h.rest);
      })

  pub filling-end : w ≤ j → items ≡ sets items₀ n (map I.Starred (up_to first w))
  unfolding up_to
  filling-end g =
      let c : w - j ≡ 0 = omega arith in
      rw c at h.rest
