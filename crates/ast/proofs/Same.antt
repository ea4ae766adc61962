-- An expression is equal to itself.
use mathlib.Core.Path.{◌≡◌, refl}
use mathlib.Core.Bool.{true}
use mathlib.Core.Option.{none, some}
use borrow.Author.Tests.{eq-eqb}
use Rattle.rules.specs.Lists.{is_some}
use Rattle.rules.specs.Ast.{Expr, star, column, literal, call, unary, binary, is, Exprs, nil, cons}
use Rattle.rules.specs.Views.{as_star, as_column, as_literal, as_call, as_unary, as_binary, as_is}
use Rattle.rules.specs.Codes.{unary_code, binary_code}
use Rattle.rules.specs.Equality.{contents, same_name, same_optional_name, same_value, equal, equal_all}
use Rattle.text.specs.Order.{same_self}

mutual
  unfolding equal same_name same_optional_name same_value is_some
      as_star as_column as_literal as_call as_unary as_binary as_is

  pub equal-self : (e : Expr) → equal e e ≡ true
  equal-self (star l) = refl
  equal-self (column l none n) = same_self n.bytes
  equal-self (column l (some t) n) = rw (same_self t.bytes) (same_self n.bytes)
  equal-self (literal l v) = same_self (contents v)
  equal-self (call l n as') = rw (same_self n.bytes) (all-self as')
  equal-self (unary l o a) = rw (eq-eqb (unary_code o) (unary_code o) refl) (equal-self a)
  equal-self (binary l o a b) = rw (eq-eqb (binary_code o) (binary_code o) refl, equal-self a) (equal-self b)
  equal-self (is l a v) = rw (same_self (contents v)) (equal-self a)

  all-self : (as' : Exprs) → equal_all as' as' ≡ true
  all-self nil = refl
  all-self (cons a as') = rw (equal-self a) (all-self as')
