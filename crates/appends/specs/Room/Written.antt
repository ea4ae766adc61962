-- The cells that are appended for an expression up to its end, or up to where it is refused.
use Rattle.std.specs.Prelude.{ℕ, suc, ◌+◌, ◌*◌, ◌≤◌, ◌≡◌, refl, Bool, true, false, not}
use Rattle.std.proofs.Common.{arith}
use Rattle.std.proofs.Math.Option.{Option, none, some}
use Rattle.rules.specs.Refusals.{Reason, Answer, ok, refused, ◌>>=◌, refuse, refuse_if, unsupported_star, unknown_function}
use Rattle.rules.specs.Refusals.{invalid_is}
use Rattle.rules.specs.Lists.{same}
use Rattle.rules.specs.Lines.{Word, bytes}
use Rattle.rules.specs.Schema.{Value}
use Rattle.rules.specs.Ast.{Expr, star, column, literal, call, unary, binary, is, Exprs, nil, cons, size, size_all}
use Rattle.rules.specs.Ast.{Unary, Binary, sqrt}
use Rattle.rules.specs.Plan.{Built}
use Rattle.rules.specs.Plan as P
use Rattle.rules.specs.Cells.{added, built_count}
use Rattle.rules.specs.Scope.{Scope, Found, at, missing, lookup, matched}
use Rattle.rules.specs.BuildExpression.{found, pick_matched, or_matched, is_null_or_nan, only_argument, build, build_argument}
use Rattle.rules.specs.BuildAggregate.{collect, collect_all}
use Rattle.rules.specs.Sizes.{total}
use Rattle.rules.specs.Count.{pick_cost, cost, cost_first, argument_cost}
use Rattle.claims.specs.Answers.{Ensures}
use Rattle.claims.specs.Count.Totals.{total-append}
use Rattle.claims.specs.Count.Costs.{added-most}
use Rattle.claims.specs.Count.Arguments.{arguments_cost, arguments-most, all-arguments-most, collect-sqrt}

-- what comes behind an answer, if it is accepted
unfoldable pub if_accepted : {A : Type 0} → Answer A → ℕ → ℕ
if_accepted (ok a) n = n
if_accepted (refused w) n = 0

-- no second argument is taken
unfoldable pub if_only : Exprs → ℕ → ℕ
if_only nil n = n
if_only (cons b bs) n = 0

unfoldable pub if_true : Bool → ℕ → ℕ
if_true true n = n
if_true false n = 0

-- operands first, then the operator's own cells where they are accepted
unfoldable mutual
  pub written : Scope → Expr → ℕ
  written s (star l) = pick_cost (matched s (star l)) 0
  written s (column l t n) = pick_cost (matched s (column l t n)) (if_accepted (found l (lookup s t n)) 1)
  written s (literal l v) = pick_cost (matched s (literal l v)) 1
  written s (call l n as') =
      pick_cost (matched s (call l n as')) (if_true (same n.bytes (bytes "sqrt")) (written_argument s as'))
  written s (unary l o a) = pick_cost (matched s (unary l o a)) (written s a + if_accepted (build s a) 1)
  written s (binary l o a b) = pick_cost (matched s (binary l o a b))
      (written s a + if_accepted (build s a) (written s b + if_accepted (build s b) (added o)))
  written s (is l a v) =
      pick_cost (matched s (is l a v)) (written s a + if_accepted (build s a) (if_true (is_null_or_nan v) 1))

  -- `sqrt` of its one argument
  pub written_argument : Scope → Exprs → ℕ
  written_argument s nil = 0
  written_argument s (cons a as') = if_only as' (written s a + if_accepted (build s a) 1)

-- AN ACCEPTED EXPRESSION IS WRITTEN WHOLE
match-whole : (o : Option ℕ) (r : Answer Built) (k : ℕ) → Ensures r (λ b. k ≡ built_count b)
    → Ensures (pick_matched o r) (λ b. pick_cost o k ≡ built_count b)
unfolding pick_matched pick_cost built_count
match-whole none r k h = h
match-whole (some i) r k h = refl

refused-whole : (r : Reason) (l : ℕ) → Ensures (refuse {A = Built} r l) (λ b. 0 ≡ built_count b)
unfolding refuse
refused-whole r l = tt

literal-whole : (v : Value) → Ensures {A = Built} (ok (P.constant v)) (λ b. 1 ≡ built_count b)
unfolding built_count
literal-whole v = refl

column-whole : (l : ℕ) (f : Found)
    → Ensures (found l f >>= λ i. ok (P.column i)) (λ (b : Built). if_accepted (found l f) 1 ≡ built_count b)
unfolding found refuse if_accepted built_count ◌>>=◌
column-whole l (at i) = refl
column-whole l (missing m) = tt

unary-whole : (o : Unary) (r : Answer Built) (k : ℕ) → Ensures r (λ b. k ≡ built_count b)
    → Ensures (r >>= λ x. ok (P.unary o x)) (λ (b : Built). k + if_accepted r 1 ≡ built_count b)
unfolding if_accepted built_count ◌>>=◌
unary-whole o (ok x) k h = omega (arith, h)
unary-whole o (refused w) k h = tt

binary-whole : (o : Binary) (r t : Answer Built) (k m : ℕ) → Ensures r (λ b. k ≡ built_count b)
    → Ensures t (λ b. m ≡ built_count b)
    → Ensures (r >>= λ x. t >>= λ y. ok (P.binary o x y))
    (λ (b : Built). k + if_accepted r (m + if_accepted t (added o)) ≡ built_count b)
unfolding if_accepted built_count ◌>>=◌
binary-whole o (ok x) (ok y) k m h g = omega (arith, h, g)
binary-whole o (ok x) (refused w) k m h g = tt
binary-whole o (refused w) t k m h g = tt

is_whole : (l : ℕ) (v : Value) (b : Bool) (r : Answer Built) (k : ℕ) → Ensures r (λ x. k ≡ built_count x)
    → Ensures (r >>= λ x. refuse_if (not b) invalid_is l >>= λ u. ok (P.is x v))
    (λ (y : Built). k + if_accepted r (if_true b 1) ≡ built_count y)
unfolding if_accepted if_true refuse_if refuse built_count ◌>>=◌
is_whole l v true (ok x) k h = omega (arith, h)
is_whole l v false (ok x) k h = tt
is_whole l v b (refused w) k h = tt

none-whole : (l : ℕ) → Ensures (refuse unknown_function l >>= λ x. ok (P.unary sqrt x)) (λ (b : Built). 0 ≡ built_count b)
unfolding refuse ◌>>=◌
none-whole l = tt

argument-whole : (l : ℕ) (as' : Exprs) (r : Answer Built) (k : ℕ) → Ensures r (λ b. k ≡ built_count b)
    → Ensures (only_argument l as' r >>= λ x. ok (P.unary sqrt x))
    (λ (b : Built). if_only as' (k + if_accepted r 1) ≡ built_count b)
unfolding only_argument if_only refuse ◌>>=◌
argument-whole l nil r k h = unary-whole sqrt r k h
argument-whole l (cons b bs) r k h = tt

call-whole : (l : ℕ) (b : Bool) (m : Answer Built) (k : ℕ) → Ensures m (λ y. k ≡ built_count y)
    → Ensures (refuse_if (not b) unknown_function l >>= λ u. m) (λ (y : Built). if_true b k ≡ built_count y)
unfolding refuse_if refuse if_true ◌>>=◌
call-whole l true m k h = h
call-whole l false m k h = tt

mutual
  unfolding build build_argument or_matched written

  pub written-whole : (s : Scope) (e : Expr) → Ensures (build s e) (λ b. written s e ≡ built_count b)
  written-whole s (star l) = match-whole (matched s (star l)) _ 0 (refused-whole unsupported_star l)
  written-whole s (column l t n) = match-whole (matched s (column l t n)) _ _ (column-whole l (lookup s t n))
  written-whole s (literal l v) = match-whole (matched s (literal l v)) _ 1 (literal-whole v)
  written-whole s (call l n as') = match-whole (matched s (call l n as')) _ _
      (call-whole l (same n.bytes (bytes "sqrt")) _ _ (sqrt-whole s l as'))
  written-whole s (unary l o a) =
      match-whole (matched s (unary l o a)) _ _ (unary-whole o (build s a) _ (written-whole s a))
  written-whole s (binary l o a b) = match-whole (matched s (binary l o a b)) _ _
      (binary-whole o (build s a) (build s b) _ _ (written-whole s a) (written-whole s b))
  written-whole s (is l a v) = match-whole (matched s (is l a v)) _ _
      (is_whole l v (is_null_or_nan v) (build s a) _ (written-whole s a))

  sqrt-whole : (s : Scope) (l : ℕ) (as' : Exprs) → Ensures (build_argument s l as' >>= λ x. ok (P.unary sqrt x))
      (λ (b : Built). written_argument s as' ≡ built_count b)
  sqrt-whole s l nil = none-whole l
  sqrt-whole s l (cons a as') = argument-whole l as' (build s a) _ (written-whole s a)

-- THE MOST
accepted-most : {A : Type 0} (r : Answer A) (n : ℕ) → if_accepted r n ≤ n
unfolding if_accepted
accepted-most (ok a) n = omega arith
accepted-most (refused w) n = omega arith

only-most : (as' : Exprs) (n : ℕ) → if_only as' n ≤ n
unfolding if_only
only-most nil n = omega arith
only-most (cons b bs) n = omega arith

true-most : (b : Bool) (n : ℕ) → if_true b n ≤ n
unfolding if_true
true-most true n = omega arith
true-most false n = omega arith

pick-bound : (o : Option ℕ) (k a n : ℕ) → a + 3 ≤ 3 * n → k + a ≤ 3 * n → pick_cost o k + a ≤ 3 * n
unfolding pick_cost
pick-bound (some i) k a n h g = omega arith
pick-bound none k a n h g = g

call-bound : (s : Scope) (l : ℕ) (n : Word) (as' : Exprs) (k : ℕ) (b : Bool) → same n.bytes (bytes "sqrt") ≡ b
    → k + total (argument_cost s) (collect_all as') ≤ 3 * suc (size_all as')
    → if_true b k + arguments_cost s (call l n as') ≤ 3 * suc (size_all as')
unfolding if_true arguments_cost
call-bound s l n as' k true e h = rw (collect-sqrt l n as' e) h
call-bound s l n as' k false e h = unfold size arguments_cost in (omega (arith, arguments-most s (call l n as')))

mutual
  unfolding written size collect total arguments_cost

  -- with the arguments of its aggregates, over another scope: three cells for each expression cell, accepted or refused
  pub written-most : (g s : Scope) (e : Expr) → written g e + arguments_cost s e ≤ 3 * size e
  written-most g s (star l) =
      pick-bound (matched g (star l)) 0 _ 1 (arguments-most s (star l)) (omega (arith, arguments-most s (star l)))
  written-most g s (column l t n) = pick-bound (matched g (column l t n)) _ _ 1 (arguments-most s (column l t n))
      (omega (arith, arguments-most s (column l t n), accepted-most (found l (lookup g t n)) 1))
  written-most g s (literal l v) =
      pick-bound (matched g (literal l v)) 1 _ 1 (arguments-most s (literal l v))
      (omega (arith, arguments-most s (literal l v)))
  written-most g s (call l n as') =
      pick-bound (matched g (call l n as')) _ _ (suc (size_all as')) (arguments-most s (call l n as'))
      (call-bound s l n as' (written_argument g as') (same n.bytes (bytes "sqrt")) refl (argument-most g s as'))
  written-most g s (unary l o a) =
      pick-bound (matched g (unary l o a)) _ _ (suc (size a)) (arguments-most s (unary l o a))
      (omega (arith, written-most g s a, accepted-most (build g a) 1))
  written-most g s (binary l o a b) =
      pick-bound (matched g (binary l o a b)) _ _ (suc (size a + size b)) (arguments-most s (binary l o a b))
      (omega (
        arith,
        written-most g s a,
        written-most g s b,
        accepted-most (build g a) (written g b + if_accepted (build g b) (added o)),
        accepted-most (build g b) (added o),
        added-most o,
        total-append (argument_cost s) (collect a) (collect b),
      ))
  written-most g s (is l a v) = pick-bound (matched g (is l a v)) _ _ (suc (size a)) (arguments-most s (is l a v))
      (omega (
        arith,
        written-most g s a,
        accepted-most (build g a) (if_true (is_null_or_nan v) 1),
        true-most (is_null_or_nan v) 1,
      ))

  argument-most : (g s : Scope) (as' : Exprs)
      → written_argument g as' + total (argument_cost s) (collect_all as') ≤ 3 * suc (size_all as')
  argument-most g s nil = omega arith
  argument-most g s (cons a as') = omega (
    arith,
    only-most as' (written g a + if_accepted (build g a) 1),
    accepted-most (build g a) 1,
    written-most g s a,
    all-arguments-most s as',
    total-append (argument_cost s) (collect a) (collect_all as'),
  )

pick-cost : (o : Option ℕ) (k m : ℕ) → k ≤ m → pick_cost o k ≤ pick_cost o m
unfolding pick_cost
pick-cost (some i) k m h = omega arith
pick-cost none k m h = h

mutual
  unfolding written cost

  -- no more than an accepted one's
  pub written-cost : (s : Scope) (e : Expr) → written s e ≤ cost s e
  written-cost s (star l) = pick-cost (matched s (star l)) 0 1 (omega arith)
  written-cost s (column l t n) =
      pick-cost (matched s (column l t n)) _ 1 (accepted-most (found l (lookup s t n)) 1)
  written-cost s (literal l v) = pick-cost (matched s (literal l v)) 1 1 (omega arith)
  written-cost s (call l n as') = pick-cost (matched s (call l n as')) _ (cost_first s as' + 1)
      (omega (arith, true-most (same n.bytes (bytes "sqrt")) (written_argument s as'), first-cost s as'))
  written-cost s (unary l o a) = pick-cost (matched s (unary l o a)) _ (cost s a + 1)
      (omega (arith, written-cost s a, accepted-most (build s a) 1))
  written-cost s (binary l o a b) = pick-cost (matched s (binary l o a b)) _ (cost s a + cost s b + added o)
      (omega (
        arith,
        written-cost s a,
        written-cost s b,
        accepted-most (build s a) (written s b + if_accepted (build s b) (added o)),
        accepted-most (build s b) (added o),
      ))
  written-cost s (is l a v) = pick-cost (matched s (is l a v)) _ (cost s a + 1)
      (omega (
        arith,
        written-cost s a,
        accepted-most (build s a) (if_true (is_null_or_nan v) 1),
        true-most (is_null_or_nan v) 1,
      ))

  first-cost : (s : Scope) (as' : Exprs) → written_argument s as' ≤ cost_first s as' + 1
  first-cost s nil = omega arith
  first-cost s (cons a as') = omega (
    arith,
    only-most as' (written s a + if_accepted (build s a) 1),
    accepted-most (build s a) 1,
    written-cost s a,
  )
