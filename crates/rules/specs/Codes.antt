-- A number for each operator: as a cell's kind in the area (docs/PLAN.md), and to compare two by.
use Rattle.std.specs.Prelude.{ℕ}
use Rattle.rules.specs.Ast.{Unary, not, fact, ident, neg, sqrt}
use Rattle.rules.specs.Ast.{Plain, and, or, eq, gt, lt, add, div, pow, mul, rem, sub, like}
use Rattle.rules.specs.Ast.{Binary, plain, ge, le, ne}

unfoldable pub unary_code : Unary → ℕ
unary_code not = 8
unary_code fact = 9
unary_code ident = 10
unary_code neg = 11
unary_code sqrt = 12

unfoldable pub plain_code : Plain → ℕ
plain_code and = 16
plain_code or = 17
plain_code eq = 18
plain_code gt = 19
plain_code lt = 20
plain_code add = 21
plain_code div = 22
plain_code pow = 23
plain_code mul = 24
plain_code rem = 25
plain_code sub = 26
plain_code like = 27

-- `ge`, `le` and `ne` are in no plan
unfoldable pub binary_code : Binary → ℕ
binary_code (plain o) = plain_code o
binary_code ge = 28
binary_code le = 29
binary_code ne = 30
