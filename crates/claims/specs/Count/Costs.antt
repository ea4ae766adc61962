-- What an expression costs: the cells of an accepted one, and the most that it can be.
use Rattle.std.specs.Prelude.{ℕ, ◌*◌, ◌≤◌, ◌≡◌, refl}
use Rattle.std.proofs.Common.{arith, sym}
use Rattle.std.proofs.Math.Option.{Option, none, some}
use Rattle.rules.specs.Lists.{given}
use Rattle.rules.specs.Ast.{Expr, star, column, literal, call, unary, binary, is, Exprs, nil, cons, size, size_all, Binary, plain, ge, le, ne}
use Rattle.rules.specs.Views.{as_call}
use Rattle.rules.specs.Scope.{Scope, matched}
use Rattle.rules.specs.BuildExpression.{build, build_option}
use Rattle.rules.specs.Cells.{added, built_count}
use Rattle.rules.specs.Sizes.{total, option_size}
use Rattle.rules.specs.BuildAggregate.{build_function}
use Rattle.rules.specs.Order.{Use, over, argument_of, through, build_use}
use Rattle.rules.specs.Count.{pick_cost, cost, cost_first, argument_cost, use_cost}
use Rattle.claims.specs.Answers.{Ensures, then}
use Rattle.claims.specs.Building.Built.{Steps, build-by, function-by}

-- a match is one cell
pub matched-cost : (s : Scope) (e : Expr) (i : ℕ) → matched s e ≡ some i → 1 ≡ cost s e
unfolding cost pick_cost
matched-cost s (star l) i u = rw u
matched-cost s (column l t n) i u = rw u
matched-cost s (literal l v) i u = rw u
matched-cost s (call l n as') i u = rw u
matched-cost s (unary l o a) i u = rw u
matched-cost s (binary l o a b) i u = rw u
matched-cost s (is l a v) i u = rw u

cost-steps : (s : Scope) → Steps s (λ e x. built_count x ≡ cost s e)
unfolding cost cost_first pick_cost built_count
cost-steps s = record {
  matches = λ e i u. matched-cost s e i u;
  columns = λ l q n i u f. rw u;
  literals = λ l v u. rw u;
  roots = λ l n a x u e g. rw u (omega arith);
  unaries = λ l o a x u g. rw u (omega arith);
  binaries = λ l o a b x y u f g. rw u (omega arith);
  tests = λ l a v x u e g. rw u (omega arith);
}

-- an accepted expression has the cells that its cost says
pub cost-build : (s : Scope) (e : Expr) → Ensures (build s e) (λ b. built_count b ≡ cost s e)
cost-build s e = build-by (cost-steps s) e

-- the same of an expression that may be missing
pub cost-option : (s : Scope) (e : Option Expr) → Ensures (build_option s e) (λ x. total built_count (given x) ≡ total (cost s) (given e))
unfolding build_option given total
cost-option s none = refl
cost-option s (some e) = then (build s e) _ _ _ (cost-build s e) λ b p. omega arith

-- a leaf is one cell, matched or not
pub pick-one : (o : Option ℕ) → pick_cost o 1 ≡ 1
unfolding pick_cost
pick-one none = refl
pick-one (some i) = refl

-- THE MOST
pub added-most : (o : Binary) → added o ≤ 3
unfolding added
added-most (plain o) = omega arith
added-most ge = omega arith
added-most le = omega arith
added-most ne = omega arith

pick-most : (o : Option ℕ) (k n : ℕ) → k ≤ 3 * n → 1 ≤ n → pick_cost o k ≤ 3 * n
unfolding pick_cost
pick-most (some i) k n h g = omega arith
pick-most none k n h g = h

mutual
  unfolding cost size

  -- at most three cells for each expression cell of the statement
  pub cost-most : (s : Scope) (e : Expr) → cost s e ≤ 3 * size e
  cost-most s (star l) = pick-most (matched s (star l)) _ 1 (omega arith) (omega arith)
  cost-most s (column l t n) = pick-most (matched s (column l t n)) _ 1 (omega arith) (omega arith)
  cost-most s (literal l v) = pick-most (matched s (literal l v)) _ 1 (omega arith) (omega arith)
  cost-most s (call l n as') = pick-most (matched s (call l n as')) _ (size (call l n as')) (omega (arith, cost_first-most s as')) (omega arith)
  cost-most s (unary l o a) = pick-most (matched s (unary l o a)) _ (size (unary l o a)) (omega (arith, cost-most s a)) (omega arith)
  cost-most s (binary l o a b) = pick-most (matched s (binary l o a b)) _ (size (binary l o a b)) (omega (arith, cost-most s a, cost-most s b, added-most o)) (omega arith)
  cost-most s (is l a v) = pick-most (matched s (is l a v)) _ (size (is l a v)) (omega (arith, cost-most s a)) (omega arith)

  pub cost_first-most : (s : Scope) (as' : Exprs) → cost_first s as' ≤ 3 * size_all as'
  cost_first-most s nil = omega arith
  cost_first-most s (cons a as') = omega (arith, cost-most s a)

pub option-most : (s : Scope) (e : Option Expr) → total (cost s) (given e) ≤ 3 * option_size e
unfolding given total option_size
option-most s none = omega arith
option-most s (some e) = omega (arith, cost-most s e)

-- USES
pub function-cost : (s : Scope) (e : Expr) → Ensures (build_function s e) (λ f. built_count f.1 ≡ argument_cost s e)
unfolding built_count cost argument_cost cost_first as_call
function-cost s = function-by s (λ e x. built_count x ≡ cost s e) (λ l. sym (pick-one (matched s (star l)))) (cost-build s)
    (λ e x. built_count x ≡ argument_cost s e) λ l n a x g. g

-- a use has the cells that its cost says
pub cost-use : (u : Use) → Ensures (build_use u) (λ x. built_count x ≡ use_cost u)
unfolding build_use use_cost built_count
cost-use (over s e) = cost-build s e
cost-use (argument_of s e) = then (build_function s e) _ _ _ (function-cost s e) λ f h. h
cost-use (through i) = refl
