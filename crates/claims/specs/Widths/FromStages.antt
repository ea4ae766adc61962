-- FROM, WHERE and GROUP give bounded nodes, each with a scope as wide as it.
use Prim.Native.Nat.{ℕ, ◌+◌}
use Rattle.std.proofs.Common.{arith, sym, ◌∙◌, ap₂}
use Rattle.std.specs.Prelude.{◌≡◌, Bool, false, List, [], ◌∷◌, ◌++◌, length}
use Rattle.std.proofs.Math.Option.{Option, none, some}
use Rattle.rules.specs.Refusals.{at_most}
use Rattle.rules.specs.Limits.{most_columns}
use Rattle.rules.specs.Schema.{Catalog}
use Rattle.rules.specs.Ast.{Expr, line_of, From, Clause}
use Rattle.rules.specs.Plan.{Built, Node, column_count, first_row}
use Rattle.rules.specs.Plan as P
use Rattle.rules.specs.Scope.{Scope, empty, width, spawn, merge, remap}
use Rattle.rules.specs.BuildExpression.{build, each, build_option, clause_expr}
use Rattle.rules.specs.Stage.{Stage}
use Rattle.rules.specs.BuildFrom.{Sides, join_node, swapped, swap_targets, join_in_order, join_swapped, scan_of}
use Rattle.rules.specs.BuildFrom.{build_from_clause}
use Rattle.rules.specs.BuildAggregate.{build_function, retain_groups, retain_functions, build_aggregate, aggregated}
use Rattle.rules.specs.BuildAggregate.{build_groups}
use Rattle.rules.specs.BuildSelect.{filtered, build_where}
use Rattle.claims.specs.Answers.{Ensures, ensured, then, All, Given, each-ensures, past}
use Rattle.claims.specs.Cases.{tested}
use Rattle.claims.specs.Building.Built.{function-by}
use Rattle.claims.specs.Building.FromClause.{SidesBuilt, FromSteps, clause-by}
use Rattle.claims.specs.Widths.Below.{Below}
use Rattle.claims.specs.Widths.Swapped.{swapped-count, swapped-length}
use Rattle.claims.specs.Widths.Scopes.{Wide, wide-width, wide_is, wide-empty, wide-spawn, wide-table, wide-merge}
use Rattle.claims.specs.Widths.Scopes.{wide-retain, wide-swapped}
use Rattle.claims.specs.Widths.Bounded.{Bounded, BoundedStage, stage-wide, wide-build, wide-option}

-- a node and its scope
abbrev Fits : Node Built → Scope → Type 0
Fits n s = BoundedStage (record { node = n; scope = s })

-- FROM
fits_width : (n : Node Built) (s : Scope) → Fits n s → column_count n ≡ width s
fits_width n s h = sym (wide-width (column_count n) s (stage-wide _ h))

start_fits : (n : Node Built) (s : Scope) → Fits n s → Fits n (merge empty s)
unfolding BoundedStage
start_fits n s h =
    (h.0, wide_is (0 + column_count n) _ _ (omega arith) (wide-merge 0 (column_count n) empty s wide-empty h.1))

join-fits : (n m : Node Built) (s t : Scope) (x : Option Built) (o : Bool) → Fits n s → Fits m t
    → (Wide (column_count n + column_count m) (merge s t) → Given (Below (column_count n + column_count m)) x)
    → Fits (P.join n m x o) (merge s t)
unfolding BoundedStage Bounded column_count
join-fits n m s t x o h g k =
    let w = wide-merge (column_count n) (column_count m) s t h.1 g.1 in
    ((h.0, g.0, k w), w)

sides-fit : (p : Option Expr) (o : Bool) (d : Sides) → SidesBuilt p d → Fits d.first.node d.first.scope
    → Fits d.second.node d.second.scope → Fits (join_node o d) d.scope
unfolding join_node
sides-fit p o d b h g = rw b.merged
    (join-fits d.first.node d.second.node _ _ d.predicate o (start_fits d.first.node _ h) g λ w.
    ensured (build_option d.scope p) _ (wide-option _ d.scope p (rw b.merged w)) d.predicate b.built)

swap-fits : (n : Node Built) (s : Scope) (a b : ℕ) → Fits n s → column_count n ≡ a + b
    → Fits (P.remap n (swapped a b)) (remap s (swapped a b))
unfolding BoundedStage Bounded column_count
swap-fits n s a b h e = ((h.0, swapped-length a b ∙ sym e), rw swapped-count (wide-swapped a b s))

fit-steps : (c : Catalog) → FromSteps c (λ f r. Fits r.node r.scope)
unfolding scan_of join_in_order join_swapped join_node swap_targets column_count
fit-steps c = record {
  tables = λ l n a t e. unfold BoundedStage Bounded column_count Given in (tt, wide-table _ t);
  joins = λ l j f g p d e h i b. sides-fit p _ d b h i;
  rights = λ l j f g p d e h i b. swap-fits _ _ _ _ (sides-fit p _ d b h i)
      (ap₂ ◌+◌ (fits_width d.first.node _ h) (fits_width d.second.node _ i));
}

-- FROM's node is bounded, and its scope as wide
pub from-stage : (c : Catalog) (fs : List From) → Ensures (build_from_clause c fs) BoundedStage
unfolding build_from_clause Given
from-stage c [] = unfold BoundedStage Bounded column_count first_row All in ((tt, tt), wide-empty)
from-stage c (f ∷ fs) = clause-by (fit-steps c) (λ fs s. BoundedStage s)
    (λ f fs s r h g w. join-fits s.node r.node s.scope r.scope none false h g λ w. tt) f fs
    λ r h w. start_fits r.node r.scope h

-- WHERE
-- and so they are with WHERE's filter
pub filter-stage : (n : Node Built) (x : Option Built) (s : Scope) → Fits n s → Given (Below (column_count n)) x
    → Fits (filtered n x) s
unfolding filtered BoundedStage Bounded column_count Given
filter-stage n none s h g = h
filter-stage n (some x) s h g = ((h.0, g), h.1)

pub where-stage : (f : Stage) (c : Option Clause) → BoundedStage f → Ensures (build_where f c) BoundedStage
unfolding build_where
where-stage f c h =
    then (build_option f.scope (clause_expr c)) _ _ _ (wide-option _ f.scope (clause_expr c) (stage-wide f h)) λ x g.
    filter-stage f.node x f.scope h g

-- GROUP
function-below : (w : ℕ) (s : Scope) → Wide w s → (e : Expr) → Ensures (build_function s e) (λ f. Below w f.1)
unfolding Below
function-below w s h =
    function-by s (λ e x. Below w x) (λ l. tt) (λ e. wide-build w s e h) (λ e x. Below w x) λ l n a x g. g

aggregate-stage : (n : Node Built) (gs fs : List Expr) (s : Scope) → Fits n s
    → Ensures (build_aggregate n gs fs s) BoundedStage
unfolding build_aggregate retain_groups retain_functions BoundedStage Bounded column_count
aggregate-stage n gs fs s h =
    let w = column_count n in
    let g = retain_groups s gs in
    let f = retain_functions s gs fs in
    let groups = wide-retain gs 0 s (spawn s) (wide-spawn s) in
    then (each (build s) g.exprs) _ _ _
    (each-ensures (build s) (Below w) (λ e. wide-build w s e h.1) g.exprs) λ xs hx.
    then (each (build_function s) f.exprs) _ _ _
    (each-ensures (build_function s) (λ y. Below w y.1) (function-below w s h.1) f.exprs) λ ys hy.
    past (at_most most_columns line_of (g.exprs ++ f.exprs)) _ _ λ u. (
      (h.0, hx.0, hy.0),
      wide_is (0 + length g.exprs + length f.exprs) _ _ (omega (arith, hx.1, hy.1))
          (wide-retain fs (0 + length g.exprs) s g.scope groups),
    )

-- groups and aggregates give a bounded node, and a scope with a column for each
pub group-stage : (f : Stage) (gs fs : List Expr) → BoundedStage f → Ensures (build_groups f gs fs) BoundedStage
unfolding build_groups
group-stage f gs fs h = tested (aggregated gs fs) _ _ _ (aggregate-stage f.node gs fs f.scope h) h
