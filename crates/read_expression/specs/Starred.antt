-- The columns that stars stand for, in the rows behind the statement's: each is read back as a qualified column, and no
-- number in the rows before it changes.
use Rattle.std.specs.Prelude.{ℕ, ◌+◌, ◌*◌, ◌≤◌, ◌<◌, ◌≡◌, Bool, ◌&&◌, List, [], ◌∷◌, ltb, length}
use Rattle.std.proofs.Common.{arith, ◌∙◌}
use Rattle.std.proofs.Math.Bool.{true, false}
use Rattle.std.proofs.Math.Option.{some}
use Rattle.std.proofs.Math.Dec.{eqb}
use Rattle.std.proofs.Math.Seq.{sets}
use borrow.Author.Tests.{lt-ltb, le-ltb, eq-eqb, ne_eqb}
use Rattle.rules.specs.Lists.{Bytes}
use Rattle.rules.specs.Places.{word_at}
use Rattle.rules.specs.Ast.{column}
use Rattle.numbers.specs.Codes.{coded}
use Rattle.numbers.specs.Stores.{Stored, stored-sets}
use Rattle.numbers.specs.Kept.{Kept, kept-all, kept-sets-behind}
use Rattle.ast.specs.Table.{row_size, statement_rows, starred_rows, table_size, tree_by, tree_at}
use Rattle.ast.specs.Operands.{tree-at}
use Rattle.read_expression.specs.ReadBack.{row-stands}

-- the row of starred column k
abbrev pub starred_row : ℕ → ℕ
starred_row k = statement_rows + k

-- its numbers: the star's line l, and the address and length of its table's name (t, m) and of its own (a, n)
unfoldable pub starred_numbers : (l t m a n : ℕ) → List ℕ
starred_numbers l t m a n = 3 ∷ l ∷ 1 ∷ 0 ∷ a ∷ n ∷ t ∷ m ∷ []

-- the table with it; where the table has no such row nothing is written
unfoldable pub with_starred : List ℕ → (k l t m a n : ℕ) → List ℕ
with_starred cells k l t m a n = elim (ltb k starred_rows && eqb (length cells) table_size) [
  | true ↦ sets cells (row_size * starred_row k) (starred_numbers l t m a n)
  | false ↦ cells
]

-- where they stand, the row is that column, in every table
pub starred-column : (s : List ℕ) (r l t m a n : ℕ) (c q : Bytes)
    → Stored s (row_size * r) (starred_numbers l t m a n)
    → tree_at c q s r ≡ column l (some (word_at c q t m)) (word_at c q a n)
unfolding starred_numbers tree_by coded
starred-column s r l t m a n c q h =
    let w = (row-stands s [] r 3 l 1 0 a n t m h).0 in
    tree-at c q s r ∙ rw (w.kind, w.line, w.first, w.second, w.third, w.fourth)

module _ (cells : List ℕ) (k l t m a n : ℕ) where
  pub starred-past : starred_rows ≤ k → cells ≡ with_starred cells k l t m a n
  unfolding with_starred
  starred-past h = rw (le-ltb k starred_rows h, with_starred)

  pub starred-short : k < starred_rows → (length cells ≡ table_size → ⊥) → cells ≡ with_starred cells k l t m a n
  unfolding with_starred
  starred-short h g = rw (lt-ltb k starred_rows h, ne_eqb (length cells) table_size g, with_starred)

  pub starred-is : k < starred_rows → length cells ≡ table_size
      → with_starred cells k l t m a n ≡ sets cells (row_size * starred_row k) (starred_numbers l t m a n)
  unfolding with_starred
  starred-is h g = rw (lt-ltb k starred_rows h, eq-eqb (length cells) table_size g, with_starred)

  -- every number before its row is as it was
  pub starred-below : Kept 0 (row_size * starred_row k) cells (with_starred cells k l t m a n)
  unfolding with_starred
  starred-below = pick (ltb k starred_rows && eqb (length cells) table_size)
    where
      pick : (b : Bool) → Kept 0 (row_size * starred_row k) cells
          (elim b [ true ↦ sets cells (row_size * starred_row k) (starred_numbers l t m a n) | false ↦ cells ])
      pick true =
          kept-sets-behind cells (row_size * starred_row k) (starred_numbers l t m a n) 0 (row_size * starred_row k) (omega arith)
      pick false = kept-all 0 (row_size * starred_row k) cells

  module _ (h : k < starred_rows) (g : length cells ≡ table_size) where
    -- its own numbers stand
    pub starred-stands : Stored (with_starred cells k l t m a n) (row_size * starred_row k) (starred_numbers l t m a n)
    unfolding starred_numbers
    starred-stands =
        rw (starred-is h g) (stored-sets cells (row_size * starred_row k) (starred_numbers l t m a n) (omega arith))
