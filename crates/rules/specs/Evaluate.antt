-- The value of a constant expression (expression.rs, evaluate), or a refusal at the line of the operator or function.
use Rattle.std.specs.Prelude.{ℕ}
use Rattle.rules.specs.Refusals.{Answer, ok, ◌>>=◌, refuse, unsupported_star, constant_only}
use Rattle.rules.specs.Refusals.{unknown_function}
use Rattle.rules.specs.Schema.{Value}
use Rattle.rules.specs.Ast.{Expr, star, column, literal, call, unary, binary, is, Exprs, nil, cons}
use Rattle.rules.specs.Arithmetic.{Worked, gives, fails}
use Rattle.rules.specs.Operators.{unary_of, binary_of, root_of, is_of}

unfoldable pub worked_at : ℕ → Worked → Answer Value
worked_at l (gives v) = ok v
worked_at l (fails n) = refuse n l

-- Both operands are worked out, the left one first. A bare literal keeps its bits. A star, a column and a call other
-- than `sqrt` of one argument were refused before, by build_expression over an empty scope; they are given its reasons.
unfoldable mutual
  pub evaluate : Expr → Answer Value
  evaluate (star l) = refuse unsupported_star l
  evaluate (column l t n) = refuse constant_only l
  evaluate (literal l v) = ok v
  evaluate (call l n as') = evaluate_root l as'
  evaluate (unary l o a) = do
    v ← evaluate a
    worked_at l (unary_of o v)
  evaluate (binary l o a b) = do
    v ← evaluate a
    w ← evaluate b
    worked_at l (binary_of o v w)
  evaluate (is l a v) = do
    w ← evaluate a
    worked_at l (is_of v w)

  -- `sqrt`, the one function that a constant may have, of its one argument
  pub evaluate_root : ℕ → Exprs → Answer Value
  evaluate_root l nil = refuse unknown_function l
  evaluate_root l (cons a as') = do
    v ← evaluate a
    worked_at l (root_of v)
