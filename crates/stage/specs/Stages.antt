-- A clause of a SELECT that makes a new scope: what it appends behind the node before it and the scope it leaves, or its
-- refusal.
use Rattle.std.specs.Prelude.{ℕ, ◌≤◌, ◌≡◌, List, length, Result, MatchResult}
use Rattle.rules.specs.Refusals.{Answer}
use Rattle.rules.specs.Lists.{Bytes}
use Rattle.rules.specs.Plan.{Built, Node}
use Rattle.rules.specs.Stage as rules
use Rattle.appends.specs.From.Laid.{stage_of}
use Rattle.numbers.specs.declared.refusals.Refusal.{Refusal}
use Rattle.ast.specs.Table.{tree_at}
use Rattle.scope.specs.Scopes.{scope_of, Valid}
use Rattle.plan.specs.Pushed.{Kept}
use Rattle.plan.specs.declared.nodes.Nodes.{Nodes}
use Rattle.plan.specs.Steps.{Taken, StoppedWith}
use Rattle.stage.specs.declared.Stage.{Stage}

-- accepted: the scope that is left, and what is appended
pub record Accepted (c q : Bytes) (cells : List ℕ) (a : Node Built → Answer rules.Stage) (n m : ℕ) (area : List ℕ) (s : Nodes)
    (area' : List ℕ) (t : Nodes) (x : Stage) : Type 0 where
  pub valid : Valid x.scope
  pub hidden : x.scope.hidden ≤ x.scope.width
  pub taken : Taken (λ d. stage_of d (scope_of (tree_at c q cells) c q x.scope)) a n m area s x.at.cell x.at.node area' t

-- the clause a behind n cells, m nodes and the numbers of s
pub record StageBuilt (c q : Bytes) (cells : List ℕ) (a : Node Built → Answer rules.Stage) (n m : ℕ) (area : List ℕ) (s : Nodes)
    (area' : List ℕ) (t : Nodes) (r : Result Stage Refusal) : Type 0 where
  pub kept : length area' ≡ length area
  pub kept-nodes : Kept s t
  pub is : MatchResult r (Accepted c q cells a n m area s area' t) (StoppedWith a n m)
