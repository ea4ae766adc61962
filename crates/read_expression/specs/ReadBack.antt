-- What is read back from the rows of an expression is the expression.
use Rattle.std.specs.Prelude.{ℕ, suc, ◌+◌, ◌*◌, ◌≡◌, List, [], ◌∷◌}
use Rattle.std.proofs.Common.{arith}
use Rattle.numbers.specs.Stores.{Stored, stored-append}
use Rattle.ast.specs.Table.{row_size, at}

-- A ROW
-- the eight numbers of a row, and what stands behind it
pub record Row (t : List ℕ) (r k l n o a b x y : ℕ) : Type 0 where
  pub kind : at t r 0 ≡ k
  pub line : at t r 1 ≡ l
  pub rows : at t r 2 ≡ n
  pub code : at t r 3 ≡ o
  pub first : at t r 4 ≡ a
  pub second : at t r 5 ≡ b
  pub third : at t r 6 ≡ x
  pub fourth : at t r 7 ≡ y

pub row-stands : (t rest : List ℕ) (r k l n o a b x y : ℕ)
    → Stored t (row_size * r) (k ∷ l ∷ n ∷ o ∷ a ∷ b ∷ x ∷ y ∷ rest)
    → Row t r k l n o a b x y × Stored t (row_size * suc r) rest
unfolding at
row-stands t rest r k l n o a b x y h =
    let e : row_size * suc r ≡ row_size * r + 8 = omega arith in (
      record {
        kind = h.at 0 (omega arith);
        line = h.at 1 (omega arith);
        rows = h.at 2 (omega arith);
        code = h.at 3 (omega arith);
        first = h.at 4 (omega arith);
        second = h.at 5 (omega arith);
        third = h.at 6 (omega arith);
        fourth = h.at 7 (omega arith);
      },
      rw e (stored-append t (row_size * r) (k ∷ l ∷ n ∷ o ∷ a ∷ b ∷ x ∷ y ∷ []) rest h).1,
    )
