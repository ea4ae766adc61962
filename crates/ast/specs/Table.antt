-- The statement's expressions as a table of numbers: eight a record, one row an expression record, root first. What stands
-- at a row, read back as the rules' tree.
--
--   0  the record's kind        1 star, 2 column, 3 qualified column, 4 call, 5 unary, 6 binary, 7 is, 8 literal
--   1  its line
--   2  how many rows its tree has
--   3  the operator's code (unary, binary), the arguments (call), the literal's kind (is, literal)
--   4  5   the name's address and length, or the literal's two numbers
--   6  7   the qualifying table's address and length
use Rattle.std.specs.Prelude.{ℕ, zero, suc, ◌+◌, ◌*◌, List, [], ◌∷◌, length, get_or}
use Rattle.std.proofs.Math.Option.{none, some}
use Rattle.rules.specs.Limits.{most_cells, most_columns}
use Rattle.rules.specs.Lists.{Bytes}
use Rattle.rules.specs.Places.{word_at}
use Rattle.rules.specs.Ast.{Unary, not, fact, ident, neg, sqrt, and, or, eq, gt, lt, add, div, pow, mul, rem, sub, like, Binary, plain, ge, le, ne}
use Rattle.rules.specs.Ast.{Expr, star, column, literal, call, unary, binary, is, Exprs, nil, cons}
use Rattle.numbers.specs.Codes.{coded}
use Rattle.numbers.specs.Values.{value_at}
use Rattle.ast.specs.Behind.{behind}

-- numbers a row
abbrev pub row_size : ℕ
row_size = 8

-- rows for the statement's expressions, and behind those for the columns that its stars stand for
abbrev pub statement_rows : ℕ
statement_rows = most_cells

abbrev pub starred_rows : ℕ
starred_rows = most_columns

-- numbers of the whole table
abbrev pub table_size : ℕ
table_size = row_size * (statement_rows + starred_rows)

-- the number at a place of a row
unfoldable pub at : List ℕ → ℕ → ℕ → ℕ
at t r k = get_or t (row_size * r + k) 0

-- how many rows the tree at a row has
unfoldable pub rows_at : List ℕ → ℕ → ℕ
rows_at t r = at t r 2

-- the operators by the rules' codes (unary_code, plain_code, binary_code)
unfoldable pub unary_at : ℕ → Unary
unary_at k = coded not (not ∷ fact ∷ ident ∷ neg ∷ sqrt ∷ []) 8 k

unfoldable pub binary_at : ℕ → Binary
binary_at k = coded (plain and) (plain and ∷ plain or ∷ plain eq ∷ plain gt ∷ plain lt ∷ plain add ∷ plain div ∷ plain pow ∷ plain mul ∷ plain rem ∷ plain sub ∷ plain like ∷ ge ∷ le ∷ ne ∷ []) 16 k

-- n expressions in a row, each read by f, from row r
unfoldable pub arguments_at : (ℕ → Expr) → List ℕ → ℕ → ℕ → Exprs
arguments_at f t zero r = nil
arguments_at f t (suc n) r = cons (f r) (arguments_at f t n (r + rows_at t r))

-- the tree whose root stands at a row, by its kind, its operands read by f
unfoldable pub tree_by : (ℕ → Expr) → Bytes → Bytes → List ℕ → ℕ → Expr
tree_by f c q t r = coded (star (at t r 1)) (
    star (at t r 1)
    ∷ column (at t r 1) none (word_at c q (at t r 4) (at t r 5))
    ∷ column (at t r 1) (some (word_at c q (at t r 6) (at t r 7))) (word_at c q (at t r 4) (at t r 5))
    ∷ call (at t r 1) (word_at c q (at t r 4) (at t r 5)) (arguments_at f t (at t r 3) (suc r))
    ∷ unary (at t r 1) (unary_at (at t r 3)) (f (suc r))
    ∷ binary (at t r 1) (binary_at (at t r 3)) (f (suc r)) (f (suc r + rows_at t (suc r)))
    ∷ is (at t r 1) (f (suc r)) (value_at c q (at t r 3) (at t r 4) (at t r 5))
    ∷ literal (at t r 1) (value_at c q (at t r 3) (at t r 4) (at t r 5))
    ∷ []
    ) 1 (at t r 0)

-- its root alone, with a star for each operand
unfoldable pub star_at : ℕ → Expr
star_at r = star 0

unfoldable pub root_at : Bytes → Bytes → List ℕ → ℕ → Expr
root_at c q t r = tree_by star_at c q t r

-- the tree at a row: its operands are the trees at rows behind it, and past the end of the table stands a star. The law
-- is tree_at c q t r ≡ tree_by (tree_at c q t) c q t r (Operands, `tree-at`)
unfoldable pub tree_at : Bytes → Bytes → List ℕ → ℕ → Expr
tree_at c q t r = behind (λ f. tree_by f c q t) (star 0) (length t) r
