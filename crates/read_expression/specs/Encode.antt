-- An expression as the numbers of its rows, root first (Table.antt has the layout).
use Rattle.std.specs.Prelude.{ℕ, suc, ◌+◌, List, [], ◌∷◌, ◌++◌, length}
use Rattle.std.proofs.Math.Option.{none, some}
use Rattle.rules.specs.Schema.{Value}
use Rattle.rules.specs.Codes.{unary_code, binary_code}
use Rattle.rules.specs.Ast.{Expr, star, column, literal, call, unary, binary, is, Exprs, nil, cons, size, size_all}
use Rattle.rules.specs.ReadExpression.{Head, star_head, is_head, column_head, value_head, call_head, unary_head, binary_head}
use Rattle.rules.specs.Area.{value_numbers}

-- the numbers of a row but its line and its size, by what its record says
unfoldable pub head_numbers : Head → List ℕ
head_numbers star_head = 1 ∷ 0 ∷ 0 ∷ 0 ∷ 0 ∷ 0 ∷ []
head_numbers (column_head none n) = 2 ∷ 0 ∷ n.start ∷ length n.bytes ∷ 0 ∷ 0 ∷ []
head_numbers (column_head (some t) n) = 3 ∷ 0 ∷ n.start ∷ length n.bytes ∷ t.start ∷ length t.bytes ∷ []
head_numbers (call_head n k) = 4 ∷ k ∷ n.start ∷ length n.bytes ∷ 0 ∷ 0 ∷ []
head_numbers (unary_head o) = 5 ∷ unary_code o ∷ 0 ∷ 0 ∷ 0 ∷ 0 ∷ []
head_numbers (binary_head o) = 6 ∷ binary_code o ∷ 0 ∷ 0 ∷ 0 ∷ 0 ∷ []
head_numbers is_head = 7 ∷ 0 ∷ 0 ∷ 0 ∷ 0 ∷ 0 ∷ []
head_numbers (value_head v) = 8 ∷ (value_numbers v ++ (0 ∷ []))

-- those of an `is`, whose literal follows its operand
unfoldable pub is_numbers : Value → List ℕ
is_numbers v = 7 ∷ (value_numbers v ++ (0 ∷ []))

-- the operands behind a record
unfoldable pub arity : Head → ℕ
arity star_head = 0
arity (column_head t n) = 0
arity (value_head v) = 0
arity (call_head n k) = k
arity (unary_head o) = 1
arity (binary_head o) = 2
arity is_head = 1

-- the whole row: the line and the rows of the tree behind the kind
unfoldable pub row_of : ℕ → ℕ → List ℕ → List ℕ
row_of l n [] = []
row_of l n (k ∷ xs) = k ∷ l ∷ n ∷ xs

unfoldable pub count_of : Exprs → ℕ
count_of nil = 0
count_of (cons a as') = suc (count_of as')

unfoldable mutual
  pub encode : Expr → List ℕ
  encode (star l) = row_of l 1 (head_numbers star_head)
  encode (column l t n) = row_of l 1 (head_numbers (column_head t n))
  encode (literal l v) = row_of l 1 (head_numbers (value_head v))
  encode (call l n as') = row_of l (suc (size_all as')) (head_numbers (call_head n (count_of as'))) ++ encode_all as'
  encode (unary l o a) = row_of l (suc (size a)) (head_numbers (unary_head o)) ++ encode a
  encode (binary l o a b) = row_of l (suc (size a + size b)) (head_numbers (binary_head o)) ++ (encode a ++ encode b)
  encode (is l a v) = row_of l (suc (size a)) (is_numbers v) ++ encode a

  pub encode_all : Exprs → List ℕ
  encode_all nil = []
  encode_all (cons a as') = encode a ++ encode_all as'
