-- FROM as rows of numbers of 32 bits, eight a row, and the trees that such rows stand for, whatever they are.
--
--   0  the row's kind           1 table, 2 cross, 3 inner, 4 left, 5 right join
--   1  its line
--   2  the row of its predicate's root (crate ast) and 1 more, or 0
--   3  4   the table's address and length
--   5  6   the alias's, or zeros
--   7  how many rows its sides have, 0 for a table
--
-- A join stands behind its two sides, the left one first: the root of the right one is the row before it, and the root
-- of the left one the row before those of the right one.
use Rattle.std.specs.Prelude.{ℕ, zero, suc, ◌-◌, List, [], ◌∷◌, map, reverse}
use Rattle.std.proofs.Math.Option.{Option, none, some}
use Rattle.rules.specs.Lists.{Bytes}
use Rattle.rules.specs.Places.{word_at}
use Rattle.rules.specs.Ast.{Expr, cross, inner, left, right, From, table, join}
use Rattle.numbers.specs.Codes.{coded}
use Rattle.ast.specs.Table.{at, tree_at}
use Rattle.ast.specs.Names.{name_at}

-- ROWS
module _ (froms : List ℕ) where
  -- how many rows the tree whose root is row r has, and the first of them
  unfoldable pub size_at : ℕ → ℕ
  size_at r = suc (at froms r 7)

  unfoldable pub first_at : ℕ → ℕ
  first_at r = suc r - size_at r

  -- the root of the left side of a join at row r
  unfoldable pub left_at : ℕ → ℕ
  left_at zero = zero
  left_at (suc r) = r - size_at r

  -- the roots among the first n rows that are no side of a join, the last one first; in m steps
  unfoldable pub roots_in : ℕ → ℕ → List ℕ
  roots_in zero n = []
  roots_in (suc m) zero = []
  roots_in (suc m) (suc r) = r ∷ roots_in m (first_at r)

  unfoldable pub roots_before : ℕ → List ℕ
  roots_before n = roots_in n n

  -- the roots of the items, in their order
  unfoldable pub roots_at : ℕ → List ℕ
  roots_at n = reverse (roots_before n)

-- TREES
module _ (b q : Bytes) (cells : List ℕ) where
  unfoldable pub predicate_at : ℕ → Option Expr
  predicate_at zero = none
  predicate_at (suc r) = some (tree_at b q cells r)

  -- a table, and a row of kind k with the sides u and v, by their numbers
  unfoldable pub table_by : (l a n c m : ℕ) → From
  table_by l a n c m = table l (word_at b q a n) (name_at b q c m)

  unfoldable pub row_by : (k l x a n c m : ℕ) → From → From → From
  row_by k l x a n c m u v = coded (join l right u v (predicate_at x)) (
      table_by l a n c m
      ∷ join l cross u v (predicate_at x)
      ∷ join l inner u v (predicate_at x)
      ∷ join l left u v (predicate_at x)
      ∷ join l right u v (predicate_at x)
      ∷ []
      ) 1 k

  module _ (froms : List ℕ) where
    unfoldable pub table_at : ℕ → From
    table_at r = table_by (at froms r 1) (at froms r 3) (at froms r 4) (at froms r 5) (at froms r 6)

    unfoldable pub row_at : ℕ → From → From → From
    row_at r u v = row_by (at froms r 0) (at froms r 1) (at froms r 2) (at froms r 3) (at froms r 4) (at froms r 5)
        (at froms r 6) u v

    -- the tree whose root is row r, in m steps; the first row has no sides
    unfoldable pub tree_in : ℕ → ℕ → From
    tree_in zero r = table_at r
    tree_in (suc m) zero = table_at zero
    tree_in (suc m) (suc r) = row_at (suc r) (tree_in m (left_at froms (suc r))) (tree_in m r)

    unfoldable pub from_at : ℕ → From
    from_at r = tree_in r r

    -- the trees of the first n rows, the last one first
    unfoldable pub trees_before : ℕ → List From
    trees_before n = map from_at (roots_before froms n)

    -- the items, in their order
    unfoldable pub froms_at : ℕ → List From
    froms_at n = map from_at (roots_at froms n)
