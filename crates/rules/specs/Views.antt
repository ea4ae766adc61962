-- What an expression is, one view a shape: the Rust's `let ast::Expression::Column(table, name) = expr else { .. }`.
use Rattle.std.specs.Prelude.{ℕ}
use Rattle.std.proofs.Math.Option.{Option, none, some}
use Rattle.rules.specs.Lines.{Word}
use Rattle.rules.specs.Schema.{Value}
use Rattle.rules.specs.Ast.{Unary, Binary, Expr, star, column, literal, call, unary, binary, is, Exprs}

-- a name, perhaps with its table
pub record ColumnName : Type 0 where
  pub table : Option Word
  pub name : Word

pub record Call : Type 0 where
  pub name : Word
  pub arguments : Exprs

pub record UnaryUse : Type 0 where
  pub operator : Unary
  pub operand : Expr

pub record BinaryUse : Type 0 where
  pub operator : Binary
  pub left : Expr
  pub right : Expr

pub record IsUse : Type 0 where
  pub operand : Expr
  pub value : Value

-- the line of a star
unfoldable pub as_star : Expr → Option ℕ
as_star (star l) = some l
as_star (column l t n) = none
as_star (literal l v) = none
as_star (call l n as') = none
as_star (unary l o a) = none
as_star (binary l o a b) = none
as_star (is l a v) = none

unfoldable pub as_column : Expr → Option ColumnName
as_column (star l) = none
as_column (column l t n) = some (record { table = t; name = n })
as_column (literal l v) = none
as_column (call l n as') = none
as_column (unary l o a) = none
as_column (binary l o a b) = none
as_column (is l a v) = none

unfoldable pub as_literal : Expr → Option Value
as_literal (star l) = none
as_literal (column l t n) = none
as_literal (literal l v) = some v
as_literal (call l n as') = none
as_literal (unary l o a) = none
as_literal (binary l o a b) = none
as_literal (is l a v) = none

unfoldable pub as_call : Expr → Option Call
as_call (star l) = none
as_call (column l t n) = none
as_call (literal l v) = none
as_call (call l n as') = some (record { name = n; arguments = as' })
as_call (unary l o a) = none
as_call (binary l o a b) = none
as_call (is l a v) = none

unfoldable pub as_unary : Expr → Option UnaryUse
as_unary (star l) = none
as_unary (column l t n) = none
as_unary (literal l v) = none
as_unary (call l n as') = none
as_unary (unary l o a) = some (record { operator = o; operand = a })
as_unary (binary l o a b) = none
as_unary (is l a v) = none

unfoldable pub as_binary : Expr → Option BinaryUse
as_binary (star l) = none
as_binary (column l t n) = none
as_binary (literal l v) = none
as_binary (call l n as') = none
as_binary (unary l o a) = none
as_binary (binary l o a b) = some (record { operator = o; left = a; right = b })
as_binary (is l a v) = none

unfoldable pub as_is : Expr → Option IsUse
as_is (star l) = none
as_is (column l t n) = none
as_is (literal l v) = none
as_is (call l n as') = none
as_is (unary l o a) = none
as_is (binary l o a b) = none
as_is (is l a v) = some (record { operand = a; value = v })
