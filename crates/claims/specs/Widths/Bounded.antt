-- Nodes and plans whose every column number is below the width that its expression reads.
use Rattle.std.specs.Prelude.{ℕ, ◌+◌, ◌<◌, ◌≡◌, length}
use Rattle.std.proofs.Math.Option.{Option, none, some}
use Rattle.rules.specs.Ast.{Expr}
use Rattle.rules.specs.Plan.{Tree, Node, Plan, column_count}
use Rattle.rules.specs.Plan as P
use Rattle.rules.specs.Scope.{Scope}
use Rattle.rules.specs.Stage.{Stage}
use Rattle.rules.specs.BuildExpression.{build, build_option}
use Rattle.claims.specs.Answers.{Ensures, then, All, Given}
use Rattle.claims.specs.Widths.Below.{Below, build-below}
use Rattle.claims.specs.Widths.Scopes.{Wide, wide-width, wide-sound}

-- every expression of a node is below the width of what it reads, and a remap has a target or none for each column
unfoldable pub Bounded : {O : Type 0} → Node (Tree O) → Type 0
Bounded (P.scan t a x) = Given (Below (length t.columns)) x
Bounded (P.values rs) = All (All (Below 0)) rs
Bounded (P.join a b x o) = Bounded a × Bounded b × Given (Below (column_count a + column_count b)) x
Bounded (P.filter n x) = Bounded n × Below (column_count n) x
Bounded (P.aggregate n gs fs) = Bounded n × All (Below (column_count n)) gs × All (λ f. Below (column_count n) f.1) fs
Bounded (P.project n xs) = Bounded n × All (λ x. Below (column_count n) x.0) xs
Bounded (P.order n xs) = Bounded n × All (λ x. Below (column_count n) x.0) xs
Bounded (P.offset n k) = Bounded n
Bounded (P.limit n k) = Bounded n
Bounded (P.remap n ts) = Bounded n × (length ts ≡ column_count n)

-- a plan's node is bounded; an update's expressions are below the scan's width, and its positions below the table's
abbrev pub PlanBounded : {O : Type 0} → Plan (Tree O) → Type 0
PlanBounded (P.select n) = Bounded n
PlanBounded (P.delete t n) = Bounded n
PlanBounded (P.insert t m n) = Bounded n
PlanBounded (P.update t n xs) = Bounded n × All (λ x. (x.0 < length t.columns) × Below (column_count n) x.1) xs
PlanBounded (P.create n k cs) = Unit {0}
PlanBounded (P.drop n y) = Unit {0}

-- a bounded node, and a scope as wide as it
unfoldable pub BoundedStage : Stage → Type 0
BoundedStage f = Bounded f.node × Wide (column_count f.node) f.scope

pub stage-wide : (f : Stage) → BoundedStage f → Wide (column_count f.node) f.scope
unfolding BoundedStage
stage-wide f h = h.1

-- EXPRESSIONS
-- what is built over a scope of width w is below w
pub wide-build : (w : ℕ) (s : Scope) (e : Expr) → Wide w s → Ensures (build s e) (Below w)
wide-build w s e h = rw (wide-width w s h) at (build-below s (wide-sound w s h) e)

pub wide-option : (w : ℕ) (s : Scope) (e : Option Expr) → Wide w s → Ensures (build_option s e) (Given (Below w))
unfolding build_option Given
wide-option w s none h = tt
wide-option w s (some e) h = then (build s e) _ _ _ (wide-build w s e h) λ b p. p
