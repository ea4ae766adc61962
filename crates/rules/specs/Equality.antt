-- Equality of expressions (ast.rs, PartialEq of Expression and Literal): by structure. Lines and places do not count,
-- and floats go by their bits, as in `Literal`'s Hash and Eq.
use Rattle.std.specs.Prelude.{ℕ, Bool, true, false, ◌&&◌, List, [], ◌∷◌, eqb, pos, negsuc}
use Rattle.std.proofs.Math.Option.{Option, none, some}
use Rattle.rules.specs.Lists.{same, is_some}
use Rattle.rules.specs.Lines.{Word}
use Rattle.rules.specs.Schema.{Value, null, bool, int, float, text}
use Rattle.rules.specs.Ast.{Expr, star, column, literal, call, unary, binary, is, Exprs, nil, cons}
use Rattle.rules.specs.Views.{as_star, as_column, as_literal, as_call, as_unary, as_binary, as_is}
use Rattle.rules.specs.Codes.{unary_code, binary_code}

unfoldable pub same_name : Word → Word → Bool
same_name v w = same v.bytes w.bytes

unfoldable pub same_optional_name : Option Word → Option Word → Bool
same_optional_name none none = true
same_optional_name none (some w) = false
same_optional_name (some v) none = false
same_optional_name (some v) (some w) = same_name v w

-- a literal's kind and contents, as numbers
unfoldable pub contents : Value → List ℕ
contents null = 1 ∷ []
contents (bool false) = 2 ∷ 0 ∷ []
contents (bool true) = 2 ∷ 1 ∷ []
contents (int (pos n)) = 3 ∷ 0 ∷ n ∷ []
contents (int (negsuc n)) = 3 ∷ 1 ∷ n ∷ []
contents (float b) = 4 ∷ b ∷ []
contents (text w) = 5 ∷ w.bytes

unfoldable pub same_value : Value → Value → Bool
same_value v w = same (contents v) (contents w)

unfoldable mutual
  pub equal : Expr → Expr → Bool
  equal (star l) e = is_some (as_star e)
  equal (column l t n) e = elim (as_column e) [
    | some c ↦ same_optional_name t c.table && same_name n c.name
    | none ↦ false
  ]
  equal (literal l v) e = elim (as_literal e) [ some w ↦ same_value v w | none ↦ false ]
  equal (call l n as') e = elim (as_call e) [
    | some c ↦ same_name n c.name && equal_all as' c.arguments
    | none ↦ false
  ]
  equal (unary l o a) e = elim (as_unary e) [
    | some u ↦ eqb (unary_code o) (unary_code u.operator) && equal a u.operand
    | none ↦ false
  ]
  equal (binary l o a b) e = elim (as_binary e) [
    | some u ↦ eqb (binary_code o) (binary_code u.operator) && equal a u.left && equal b u.right
    | none ↦ false
  ]
  equal (is l a v) e = elim (as_is e) [ some u ↦ same_value v u.value && equal a u.operand | none ↦ false ]

  -- arguments one by one, and as many
  pub equal_all : Exprs → Exprs → Bool
  equal_all nil nil = true
  equal_all nil (cons b bs) = false
  equal_all (cons a as') nil = false
  equal_all (cons a as') (cons b bs) = equal a b && equal_all as' bs
