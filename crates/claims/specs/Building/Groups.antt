-- The groups and functions of a SELECT have what their literals have.
use mathlib.Core.List.{List, [], ◌∷◌, ◌++◌}
use Rattle.rules.specs.Lists.{is_some}
use Rattle.rules.specs.Lines.{Word}
use Rattle.rules.specs.Schema.{Value, Catalog}
use Rattle.rules.specs.Ast.{Expr, star, column, literal, call, unary, binary, is, Exprs, nil, cons, line_of}
use Rattle.rules.specs.Scope.{Scope, spawn, matched, add_aggregate}
use Rattle.rules.specs.BuildExpression.{build, each}
use Rattle.rules.specs.Refusals.{at_most}
use Rattle.rules.specs.Limits.{most_columns}
use Rattle.rules.specs.Stage.{Stage}
use Rattle.rules.specs.BuildAggregate.{is_aggregate, collect, collect_all, collect_each, build_function, Retained, keep, retain}
use Rattle.rules.specs.BuildAggregate.{retain_groups, retain_functions, aggregated, build_aggregate, build_groups}
use Rattle.claims.specs.Answers.{Ensures, then, past, Any, All, all_append, each_from}
use Rattle.claims.specs.Cases.{either_way, tested}
use Rattle.claims.specs.Values.Outcomes.{Kept}
use Rattle.claims.specs.Reading.Has.{ExprHas, ExprsHave, Literals}
use Rattle.claims.specs.Building.Has.{TreeHas, NodeHas}
use Rattle.claims.specs.Building.Expressions.{build-has, function-has}

-- COLLECTED AND RETAINED
module _ (Q : Value → Type 0) where
  mutual
    unfolding collect ExprHas All

    collect-has : (e : Expr) → Literals Q e → All (Literals Q) (collect e)
    collect-has (star l) h = tt
    collect-has (column l q n) h = tt
    collect-has (literal l v) h = tt
    collect-has (call l n as') h = either_way (All (Literals Q)) (is_aggregate n.bytes) _ _ (h, tt) (collect_all-has as' h.1)
    collect-has (unary l o a) h = collect-has a h
    collect-has (binary l o a b) h = all_append (Literals Q) (collect a) (collect b) (collect-has a h.0) (collect-has b h.1)
    collect-has (is l a v) h = collect-has a h.0

    collect_all-has : (es : Exprs) → ExprsHave Q Any es → All (Literals Q) (collect_all es)
    collect_all-has nil h = tt
    collect_all-has (cons a as') h = all_append (Literals Q) (collect a) (collect_all as') (collect-has a h.0) (collect_all-has as' h.1)

  -- the aggregates collected from expressions
  pub collect_each-has : (es : List Expr) → All (Literals Q) es → All (Literals Q) (collect_each es)
  unfolding collect_each All
  collect_each-has [] h = tt
  collect_each-has (e ∷ es) h = all_append (Literals Q) (collect e) (collect_each es) (collect-has e h.0) (collect_each-has es h.1)

-- what all have, those that are retained have
pub all_retained : (E : Expr → Type 0) (s : Scope) (es : List Expr) (c : Scope) → All E es → All E (retain s es c).exprs
unfolding retain keep All
all_retained E s [] c h = tt
all_retained E s (e ∷ es) c h =
    either_way (λ (r : Retained). All E r.exprs) (is_some (matched c e)) _ _ (all_retained E s es c h.1)
    (h.0, all_retained E s es (add_aggregate s e c) h.1)

-- the node of the groups and functions
pub groups-have : {Q : Value → Type 0} (k : Kept Q) (N : Word → Type 0) (c : Catalog) (f : Stage) (gs fs : List Expr)
    → NodeHas Q N c f.node → All (Literals Q) gs → All (Literals Q) fs
    → Ensures (build_groups f gs fs) (λ r. NodeHas Q N c r.node)
unfolding build_groups build_aggregate retain_groups retain_functions NodeHas
groups-have {Q} k N c d gs fs h hg hf =
    let s = d.scope in
    let g = retain_groups s gs in
    let f = retain_functions s gs fs in
    tested (aggregated gs fs) _ _ _
    (then (each (build s) g.exprs) _ _ _ (each_from (build s) _ (TreeHas Q) (build-has Q s) g.exprs (all_retained _ s gs (spawn s) hg)) λ xs a.
    then (each (build_function s) f.exprs) _ _ _ (each_from (build_function s) _ _ (function-has Q k s) f.exprs (all_retained _ s fs g.scope hf)) λ ys b.
    past (at_most most_columns line_of (g.exprs ++ f.exprs)) _ _ λ u.
    (h, a.0, b.0)) h
