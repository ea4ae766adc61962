-- Groups and aggregates (planner.rs, build_aggregate, build_aggregate_function, is_aggregate_function; ast.rs, contains
-- and collect).
use Rattle.std.specs.Prelude.{ℕ, Bool, true, false, ◌&&◌, ◌||◌, not, List, [], ◌∷◌, ◌++◌}
use Rattle.std.proofs.Math.Option.{none, some}
use Rattle.rules.specs.Refusals.{Answer, ok, ◌>>=◌, ◌>>◌, refuse, refuse_if, at_most, unknown_function}
use Rattle.rules.specs.Refusals.{argument_count, nested_aggregate}
use Rattle.rules.specs.Limits.{most_columns}
use Rattle.rules.specs.Lists.{Bytes, named, is_empty, is_some}
use Rattle.rules.specs.Lines.{bytes}
use Rattle.rules.specs.Schema.{bool}
use Rattle.rules.specs.Ast.{Expr, star, column, literal, call, unary, binary, is, Exprs, nil, cons, line_of}
use Rattle.rules.specs.Views.{as_star, as_call}
use Rattle.rules.specs.Plan.{Built, Aggregate, avg, count, max, min, sum, Node}
use Rattle.rules.specs.Plan as P
use Rattle.rules.specs.Scope.{Scope, spawn, matched, add_aggregate}
use Rattle.rules.specs.BuildExpression.{build, each}
use Rattle.rules.specs.Stage.{Stage}

-- AGGREGATE FUNCTIONS
unfoldable pub aggregates : List (Bytes × Aggregate)
aggregates =
    (bytes "avg", avg) ∷ (bytes "count", count) ∷ (bytes "max", max) ∷ (bytes "min", min) ∷ (bytes "sum", sum) ∷ []

-- is_aggregate_function
unfoldable pub is_aggregate : Bytes → Bool
is_aggregate n = is_some (named aggregates n)

-- ast.rs, walk, by a visitor that is false at an aggregate: false where it stops at one, and for a function of no
-- arguments. It enters arguments only until one walk answers true: `f(1, sum(a))` is free, `f(sum(a), sum(a))` is not.
unfoldable mutual
  pub walk_free : Expr → Bool
  walk_free (star l) = true
  walk_free (column l t n) = true
  walk_free (literal l v) = true
  walk_free (call l n as') = elim (is_aggregate n.bytes) [ true ↦ false | false ↦ any_free as' ]
  walk_free (unary l o a) = walk_free a
  walk_free (binary l o a b) = walk_free a && walk_free b
  walk_free (is l a v) = walk_free a

  pub any_free : Exprs → Bool
  any_free nil = false
  any_free (cons a as') = walk_free a || any_free as'

-- ast.rs, contains an aggregate
unfoldable pub contains : Expr → Bool
contains e = not (walk_free e)

-- ast.rs, collect the aggregates: left to right, not into one
unfoldable mutual
  pub collect : Expr → List Expr
  collect (star l) = []
  collect (column l t n) = []
  collect (literal l v) = []
  collect (call l n as') = elim (is_aggregate n.bytes) [ true ↦ call l n as' ∷ [] | false ↦ collect_all as' ]
  collect (unary l o a) = collect a
  collect (binary l o a b) = collect a ++ collect b
  collect (is l a v) = collect a

  pub collect_all : Exprs → List Expr
  collect_all nil = []
  collect_all (cons a as') = collect a ++ collect_all as'

unfoldable pub collect_each : List Expr → List Expr
collect_each [] = []
collect_each (e ∷ es) = collect e ++ collect_each es

-- BUILDING
unfoldable pub is_count : Aggregate → Bool
is_count avg = false
is_count count = true
is_count max = false
is_count min = false
is_count sum = false

-- the argument of an aggregate: `count` alone takes a star
unfoldable pub argument : Scope → Aggregate → Expr → Answer Built
argument s g e = elim (is_count g && is_some (as_star e)) [ true ↦ ok (P.constant (bool true)) | false ↦ build s e ]

unfoldable pub aggregate_of : Scope → ℕ → Aggregate → Exprs → Answer (Aggregate × Built)
aggregate_of s l g nil = refuse argument_count l
aggregate_of s l g (cons a (cons b bs)) = refuse argument_count l
aggregate_of s l g (cons a nil) = do
  refuse_if (contains a) nested_aggregate l
  x ← argument s g a
  ok (g, x)

-- build_aggregate_function, of an expression that `collect` gave, so an aggregate's call: no other is refused here
unfoldable pub build_function : Scope → Expr → Answer (Aggregate × Built)
build_function s e = elim (as_call e) [
  | none ↦ refuse unknown_function (line_of e)
  | some c ↦ elim (named aggregates c.name.bytes) [
    | none ↦ refuse unknown_function (line_of e)
    | some g ↦ aggregate_of s (line_of e) g c.arguments
  ]
]

-- what `retain` leaves, and the child scope with it
pub record Retained : Type 0 where
  pub exprs : List Expr
  pub scope : Scope

unfoldable pub keep : Expr → Retained → Retained
keep e r = record { exprs = e ∷ r.exprs; scope = r.scope }

-- The expressions that the child scope has not yet, each added to it: of GROUP BY a, b, a the first two, and of
-- `sum(a)` in SELECT and again in ORDER BY the first.
unfoldable pub retain : Scope → List Expr → Scope → Retained
retain parent [] c = record { exprs = []; scope = c }
retain parent (e ∷ es) c = elim (is_some (matched c e)) [
  | true ↦ retain parent es c
  | false ↦ keep e (retain parent es (add_aggregate parent e c))
]

-- the groups and the functions that are built, and the scope with both
unfoldable pub retain_groups : Scope → List Expr → Retained
retain_groups s group = retain s group (spawn s)

unfoldable pub retain_functions : Scope → List Expr → List Expr → Retained
retain_functions s group functions = retain s functions (retain_groups s group).scope

-- build_aggregate; 3 at the root of the expression past the most columns, once all are built
unfoldable pub build_aggregate : Node Built → List Expr → List Expr → Scope → Answer Stage
build_aggregate source group functions s =
    let gs = retain_groups s group in
    let fs = retain_functions s group functions in
    do
      xs ← each (build s) gs.exprs
      ys ← each (build_function s) fs.exprs
      at_most most_columns line_of (gs.exprs ++ fs.exprs)
      ok (record { node = P.aggregate source xs ys; scope = fs.scope })

-- whether build_select aggregates at all
unfoldable pub aggregated : List Expr → List Expr → Bool
aggregated group functions = not (is_empty group && is_empty functions)

unfoldable pub build_groups : Stage → List Expr → List Expr → Answer Stage
build_groups f group functions = elim (aggregated group functions) [
  | true ↦ build_aggregate f.node group functions f.scope
  | false ↦ ok f
]
