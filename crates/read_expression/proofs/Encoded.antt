-- How many numbers an expression has: eight a row.
use Rattle.std.specs.Prelude.{ℕ, suc, ◌+◌, ◌*◌, ◌≡◌, refl, length}
use Rattle.std.proofs.Common.{arith, length-append}
use Rattle.std.proofs.Math.Option.{none, some}
use Rattle.rules.specs.Schema.{Value}
use Rattle.rules.specs.Ast.{Expr, star, column, literal, call, unary, binary, is, Exprs, nil, cons, size, size_all}
use Rattle.rules.specs.ReadExpression.{Head, star_head, is_head, column_head, value_head, call_head, unary_head, binary_head}
use Rattle.numbers.specs.Values.{literal-numbers}
use Rattle.ast.specs.Table.{row_size}
use Rattle.read_expression.specs.Encode.{head_numbers, is_numbers, row_of, count_of, encode, encode_all}

row-length : (l n : ℕ) (h : Head) → length (row_of l n (head_numbers h)) ≡ 8
unfolding row_of head_numbers
row-length l n star_head = refl
row-length l n is_head = refl
row-length l n (column_head none w) = refl
row-length l n (column_head (some t) w) = refl
row-length l n (call_head w k) = refl
row-length l n (unary_head o) = refl
row-length l n (binary_head o) = refl
row-length l n (value_head v) = rw (literal-numbers v).is

is-length : (l n : ℕ) (v : Value) → length (row_of l n (is_numbers v)) ≡ 8
unfolding row_of is_numbers
is-length l n v = rw (literal-numbers v).is

-- eight numbers a row
mutual
  unfolding encode encode_all size size_all

  pub encode-length : (e : Expr) → length (encode e) ≡ row_size * size e
  encode-length (star l) = row-length l 1 star_head
  encode-length (column l t n) = row-length l 1 (column_head t n)
  encode-length (literal l v) = row-length l 1 (value_head v)
  encode-length (call l n as') = rw length-append (omega (arith, row-length l (suc (size_all as')) (call_head n (count_of as')), encode-all-length as'))
  encode-length (unary l o a) = rw length-append (omega (arith, row-length l (suc (size a)) (unary_head o), encode-length a))
  encode-length (binary l o a b) = rw (length-append, length-append (encode a) (encode b)) (omega (arith, row-length l (suc (size a + size b)) (binary_head o), encode-length a, encode-length b))
  encode-length (is l a v) = rw length-append (omega (arith, is-length l (suc (size a)) v, encode-length a))

  pub encode-all-length : (as' : Exprs) → length (encode_all as') ≡ row_size * size_all as'
  encode-all-length nil = refl
  encode-all-length (cons a as') = rw length-append (omega (arith, encode-length a, encode-all-length as'))
