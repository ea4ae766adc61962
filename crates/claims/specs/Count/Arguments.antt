-- With the arguments of the aggregates in it, an accepted expression has at most three cells for each of its expression cells.
use Rattle.std.specs.Prelude.{ℕ, suc, ◌+◌, ◌*◌, ◌≤◌, ◌≡◌, refl, Bool, true, false, List, [], ◌∷◌}
use Rattle.std.proofs.Common.{arith, ap, ◌∙◌}
use Rattle.rules.specs.Lists.{same, named, is_some}
use Rattle.rules.specs.Lines.{Word, bytes}
use Rattle.rules.specs.Ast.{Expr, star, column, literal, call, unary, binary, is, Exprs, nil, cons, size, size_all}
use Rattle.rules.specs.Views.{as_call}
use Rattle.rules.specs.Scope.{Scope}
use Rattle.rules.specs.BuildExpression.{build}
use Rattle.rules.specs.BuildAggregate.{aggregates, is_aggregate, collect, collect_all, collect_each}
use Rattle.rules.specs.Sizes.{total}
use Rattle.rules.specs.Count.{pick_cost, cost, cost_first, argument_cost}
use Rattle.numbers.specs.Same.{same_true}
use Rattle.claims.specs.Answers.{Ensures}
use Rattle.claims.specs.Cases.{either_way}
use Rattle.claims.specs.Count.Totals.{total-append}
use Rattle.claims.specs.Building.Built.{Steps, build-by}
use Rattle.claims.specs.Count.Costs.{matched-cost, added-most, cost_first-most}

-- what the arguments of the aggregates in an expression cost
unfoldable pub arguments_cost : Scope → Expr → ℕ
arguments_cost s e = total (argument_cost s) (collect e)

-- the aggregates of several expressions cost those of each
pub arguments-total : (s : Scope) (es : List Expr) → total (argument_cost s) (collect_each es) ≡ total (arguments_cost s) es
unfolding collect_each total arguments_cost
arguments-total s [] = refl
arguments-total s (e ∷ es) = total-append (argument_cost s) (collect e) (collect_each es) ∙ ap (λ n. arguments_cost s e + n) (arguments-total s es)

-- THE ARGUMENTS ALONE
mutual
  unfolding collect size total argument_cost arguments_cost as_call

  -- at most three cells for each expression cell but one
  pub arguments-most : (s : Scope) (e : Expr) → arguments_cost s e + 3 ≤ 3 * size e
  arguments-most s (star l) = omega arith
  arguments-most s (column l t n) = omega arith
  arguments-most s (literal l v) = omega arith
  arguments-most s (call l n as') = either_way (λ es. total (argument_cost s) es + 3 ≤ 3 * suc (size_all as')) (is_aggregate n.bytes) _ _
      (omega (arith, cost_first-most s as')) (omega (arith, all-arguments-most s as'))
  arguments-most s (unary l o a) = omega (arith, arguments-most s a)
  arguments-most s (binary l o a b) = omega (arith, arguments-most s a, arguments-most s b, total-append (argument_cost s) (collect a) (collect b))
  arguments-most s (is l a v) = omega (arith, arguments-most s a)

  pub all-arguments-most : (s : Scope) (as' : Exprs) → total (argument_cost s) (collect_all as') ≤ 3 * size_all as'
  all-arguments-most s nil = omega arith
  all-arguments-most s (cons a as') = omega (arith, arguments-most s a, all-arguments-most s as', total-append (argument_cost s) (collect a) (collect_all as'))

-- A FUNCTION THAT IS NO AGGREGATE
sqrt-plain : is_aggregate (bytes "sqrt") ≡ false
unfolding is_aggregate aggregates named same bytes is_some
sqrt-plain = refl

pub collect-sqrt : (l : ℕ) (n : Word) (as' : Exprs) → same n.bytes (bytes "sqrt") ≡ true → collect (call l n as') ≡ collect_all as'
unfolding collect
collect-sqrt l n as' h = go (is_aggregate n.bytes) (ap is_aggregate (same_true n.bytes (bytes "sqrt") h) ∙ sqrt-plain)
  where
    go : (b : Bool) → b ≡ false → (elim b [ true ↦ call l n as' ∷ [] | false ↦ collect_all as' ]) ≡ collect_all as'
    go true q = grind arith
    go false q = refl

-- THE EXPRESSION AND THE ARGUMENTS
bound-steps : (g s : Scope) → Steps g (λ e b. cost g e + arguments_cost s e ≤ 3 * size e)
unfolding cost cost_first pick_cost collect size total arguments_cost
bound-steps g s = record {
  matches = λ e i u. omega (arith, matched-cost g e i u, arguments-most s e);
  columns = λ l q n i u f. rw u (omega arith);
  literals = λ l v u. rw u (omega arith);
  roots = λ l n a x u e h. rw u (omega (arith, h, ap (total (argument_cost s)) (collect-sqrt l n (cons a nil) e), total-append (argument_cost s) (collect a) []));
  unaries = λ l o a x u h. rw u (omega arith);
  binaries = λ l o a b x y u f h. rw u (omega (arith, added-most o, total-append (argument_cost s) (collect a) (collect b)));
  tests = λ l a v x u e h. rw u (omega arith);
}

-- built over one scope, its aggregates' arguments over another
pub argument-bound : (g s : Scope) (e : Expr) → Ensures (build g e) (λ b. cost g e + arguments_cost s e ≤ 3 * size e)
argument-bound g s e = build-by (bound-steps g s) e
