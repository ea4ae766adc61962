-- A projection's cells, with the arguments of its items' aggregates: at most three for each expression cell of the items,
-- one for each starred column, and one for each expression cell of HAVING and ORDER.
use Rattle.std.specs.Prelude.{ℕ, ◌+◌, ◌*◌, ◌≤◌, ◌≡◌, refl, Bool, length}
use native.Mathlib.Omega.{arith}
use Rattle.std.proofs.Math.Bool.{true, false}
use mathlib.Core.List.{List, [], ◌∷◌, ◌++◌, map}
use Rattle.std.proofs.Math.Option.{Option, none, some}
use Rattle.rules.specs.Lines as Lines
use Rattle.rules.specs.Ast.{Expr, column, size, Item, Select}
use Rattle.rules.specs.Plan.{Label, nameless, unqualified, qualified}
use Rattle.rules.specs.Scope.{Scope, matched}
use Rattle.rules.specs.BuildAggregate.{collect}
use Rattle.rules.specs.Views.{as_star}
use Rattle.rules.specs.Items.{is_lone, starred_column, expand_stars, stars_expand, expanded_items}
use Rattle.rules.specs.Hidden.{HiddenColumn, projected}
use Rattle.rules.specs.Sizes.{total, items_size}
use Rattle.rules.specs.Order.{Use, over, through, item_uses}
use Rattle.rules.specs.Count.{cost, item_starred}
use Rattle.claims.specs.Answers.{All, all_left, all_right, all-every, all-weaken}
use Rattle.claims.specs.Lists.{map-all}
use Rattle.claims.specs.Count.Totals.{total-append, all_most}
use Rattle.claims.specs.Count.Costs.{pick-one}
use Rattle.claims.specs.Count.Arguments.{arguments_cost, arguments-most}
use Rattle.claims.specs.Count.Uses.{items_arguments, use_by, items-total, hidden-total}
use Rattle.claims.specs.Count.Hidden.{hidden-most}
use Rattle.claims.specs.Count.Stars.{starred_over}

-- STARRED COLUMNS
pub starred-cost : (g : Scope) (l : ℕ) (a : Label) → cost g (starred_column l a).expr ≡ 1
unfolding starred_column cost
starred-cost g l nameless = pick-one (matched g (column l none (Lines.empty 0)))
starred-cost g l (unqualified n) = pick-one (matched g (column l none n))
starred-cost g l (qualified t n) = pick-one (matched g (column l (some t) n))

pub starred-arguments : (s : Scope) (l : ℕ) (a : Label) → arguments_cost s (starred_column l a).expr ≡ 0
unfolding starred_column arguments_cost collect total
starred-arguments s l nameless = refl
starred-arguments s l (unqualified n) = refl
starred-arguments s l (qualified t n) = refl

-- ITEMS, by a cost of theirs that is at most 1 for a starred column
module _ (f : Expr → ℕ) (one : (l : ℕ) (a : Label) → f (starred_column l a).expr ≤ 1) (s : Scope) where
  -- at most three cells for each of an item's expression cells
  abbrev Within : Item → Type 0
  Within i = f i.expr + arguments_cost s i.expr ≤ 3 * size i.expr

  -- the items' cost and that of their aggregates' arguments
  abbrev both-costs : List Item → ℕ
  both-costs is' = total (λ (i : Item). f i.expr) is' + items_arguments s is'

  both-append : (xs ys : List Item) → both-costs (xs ++ ys) ≡ both-costs xs + both-costs ys
  both-append xs ys = omega (arith, total-append (λ (i : Item). f i.expr) xs ys, total-append (λ (i : Item). arguments_cost s i.expr) xs ys)

  starred-both : (l : ℕ) (ls : List Label) → both-costs (map (starred_column l) ls) ≤ length ls
  unfolding total
  starred-both l [] = omega arith
  starred-both l (a ∷ ls) = omega (arith, one l a, starred-arguments s l a, starred-both l ls)

  stars-bound : (ls : List Label) (is' : List Item) → All Within (expand_stars ls is') → both-costs (expand_stars ls is') ≤ 3 * items_size is' + total (item_starred (length ls)) is'
  unfolding expand_stars total items_size item_starred All
  stars-bound ls [] h = omega arith
  stars-bound ls (i ∷ is') h = go (as_star i.expr) (stars-bound ls is') h
    where
      rest : List Item
      rest = expand_stars ls is'

      go : (o : Option ℕ) → (All Within rest → both-costs rest ≤ 3 * items_size is' + total (item_starred (length ls)) is')
          → All Within (elim o [ some l ↦ map (starred_column l) ls ++ rest | none ↦ i ∷ rest ])
          → both-costs (elim o [ some l ↦ map (starred_column l) ls ++ rest | none ↦ i ∷ rest ])
          ≤ 3 * (size i.expr + items_size is') + ((elim o as (λ x. ℕ) [ some l ↦ length ls | none ↦ 0 ]) + total (item_starred (length ls)) is')
      go none k p = omega (arith, k p.1, p.0)
      go (some l) k p = omega (arith, k (all_right Within (map (starred_column l) ls) rest p), both-append (map (starred_column l) ls) rest, starred-both l ls)

  pub items-bound : (q : Select) (ls : List Label) → All Within (expanded_items q ls) → both-costs (expanded_items q ls) ≤ 3 * items_size q.items + starred_over q (length ls)
  unfolding expanded_items starred_over
  items-bound q ls = go (stars_expand q)
    where
      go : (b : Bool) → All Within (elim b [ true ↦ expand_stars ls q.items | false ↦ q.items ])
          → both-costs (elim b [ true ↦ expand_stars ls q.items | false ↦ q.items ])
          ≤ 3 * items_size q.items + (elim b as (λ x. ℕ) [ true ↦ total (item_starred (length ls)) q.items | false ↦ 0 ])
      go true h = stars-bound ls q.items h
      go false h = unfold items_size in (omega (arith, all_most (λ (i : Item). f i.expr) (λ (i : Item). arguments_cost s i.expr) (λ (i : Item). size i.expr) q.items h))

-- THE PROJECTION
-- by a number w of an expression over a scope: with the arguments of its aggregates over another, at most three for each
-- expression cell of every use that has P
module _ (w : Scope → Expr → ℕ) (one : (g : Scope) (l : ℕ) (a : Label) → w g (starred_column l a).expr ≤ 1)
    (P : Use → Type 0)
    (three : (g s : Scope) (e : Expr) → P (over g e) → w g e + arguments_cost s e ≤ 3 * size e) where
  -- over one scope, the aggregates' arguments over another, with the stars expanded to some labels
  pub items-most : (q : Select) (ls : List Label) (is' : List Item) (later : List Expr) (g s : Scope)
      → is' ≡ expanded_items q ls → All P (item_uses g is' later)
      → total (use_by w) (item_uses g is' later) + items_arguments s is'
      ≤ 3 * items_size q.items + starred_over q (length ls) + total size later
  unfolding item_uses
  items-most q ls is' later g s e = go (is_lone is')
    where
      cs : List HiddenColumn
      cs = (projected g is' later).columns

      bound : (f : Expr → ℕ) → ((l : ℕ) (a : Label) → f (starred_column l a).expr ≤ 1)
          → All (λ i. f i.expr + arguments_cost s i.expr ≤ 3 * size i.expr) is'
          → total (λ (i : Item). f i.expr) is' + items_arguments s is'
          ≤ 3 * items_size q.items + starred_over q (length ls)
      bound f single h = rw e (items-bound f single s q ls (rw e at h))

      us : List Use
      us = map (λ (i : Item). over g i.expr) is'

      hs : List Use
      hs = map (λ (c : HiddenColumn). through c.position) cs

      go : (b : Bool) → All P (elim b [ true ↦ [] | false ↦ us ++ hs ])
          → total (use_by w) (elim b [ true ↦ [] | false ↦ us ++ hs ]) + items_arguments s is'
          ≤ 3 * items_size q.items + starred_over q (length ls) + total size later
      go true h = unfold total in (omega (
        arith,
        bound (λ x. 0) (λ l a. omega arith) (all-every _ (λ i. omega (arith, arguments-most s i.expr)) is'),
      ))
      go false h = omega (
        arith,
        total-append (use_by w) us hs,
        items-total w g is',
        hidden-total w cs,
        bound (w g) (one g)
            (all-weaken _ _ (λ i. three g s i.expr) is'
            (map-all P (λ (i : Item). over g i.expr) is' (all_left P us hs h))),
        hidden-most g is' later,
      )
