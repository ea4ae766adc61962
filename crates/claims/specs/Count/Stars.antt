-- The items after star expansion: at most 256, with a column for each column that each star stands for.
use Rattle.std.specs.Prelude.{ℕ, ◌+◌, ◌≤◌, ◌≡◌, refl, Bool, true, false, List, [], ◌∷◌, ◌++◌, map, length}
use Rattle.std.proofs.Common.{arith, length-append}
use Rattle.std.proofs.Math.Option.{Option, none, some}
use Rattle.std.proofs.lemmas.List.{length-map}
use Rattle.rules.specs.Limits.{most_columns}
use Rattle.rules.specs.Ast.{Item, Select}
use Rattle.rules.specs.Refusals.{at_most}
use Rattle.rules.specs.Views.{as_star}
use Rattle.rules.specs.Plan.{Built, Node, Label, column_count, labels}
use Rattle.rules.specs.Items.{plain_star, starred_column, expand_stars, stars_expand, expanded_items, stars_have_columns, build_items}
use Rattle.rules.specs.Sizes.{total}
use Rattle.rules.specs.Count.{item_starred}
use Rattle.claims.specs.Count.Within.{at-most}
use Rattle.claims.specs.Answers.{Ensures, then, past}

-- the items over a node go by its labels, and are at most 256
pub expanded-items : (q : Select) (n : Node Built) → Ensures (build_items q n) (λ is'. (is' ≡ expanded_items q (labels n)) × (length is' ≤ most_columns))
unfolding build_items
expanded-items q n =
    past (stars_have_columns (plain_star q.items) (column_count n)) _ _ λ u.
    then (at_most most_columns (λ (i : Item). i.line) (expanded_items q (labels n))) _ _ _
    (at-most most_columns (λ (i : Item). i.line) (expanded_items q (labels n))) λ v hv. (refl, hv)

-- the count's starred columns, over w columns
unfoldable pub starred_over : Select → ℕ → ℕ
starred_over q w = elim (stars_expand q) [ true ↦ total (item_starred w) q.items | false ↦ 0 ]

stars-most : (ls : List Label) (is' : List Item) → total (item_starred (length ls)) is' ≤ length (expand_stars ls is')
unfolding expand_stars total item_starred
stars-most ls [] = omega arith
stars-most ls (i ∷ is') = go (as_star i.expr) (stars-most ls is')
  where
    go : (o : Option ℕ) → total (item_starred (length ls)) is' ≤ length (expand_stars ls is')
        → (elim o as (λ x. ℕ) [ some l ↦ length ls | none ↦ 0 ]) + total (item_starred (length ls)) is' ≤ length {A = Item} (elim o [ some l ↦ map (starred_column l) ls ++ expand_stars ls is' | none ↦ i ∷ expand_stars ls is' ])
    go none h = omega arith
    go (some l) h = omega (arith, length-append (map (starred_column l) ls) (expand_stars ls is'), length-map ls (starred_column l))

-- each of them is one of the items
pub starred-most : (q : Select) (ls : List Label) → starred_over q (length ls) ≤ length (expanded_items q ls)
unfolding starred_over expanded_items
starred-most q ls = go (stars_expand q)
  where
    go : (b : Bool) → (elim b as (λ x. ℕ) [ true ↦ total (item_starred (length ls)) q.items | false ↦ 0 ]) ≤ length {A = Item} (elim b [ true ↦ expand_stars ls q.items | false ↦ q.items ])
    go true = stars-most ls q.items
    go false = omega arith
