-- An accepted stage of building, with what its node lays.
use Rattle.std.specs.Prelude.{ℕ, ◌≡◌, List}
use Rattle.rules.specs.Refusals.{Answer, ok}
use Rattle.rules.specs.Plan.{Built, Node}
use Rattle.rules.specs.Cells.{Cell}
use Rattle.rules.specs.Nodes.{NodeRecord}
use Rattle.rules.specs.Scope.{Scope}
use Rattle.rules.specs.Stage.{Stage}
use Rattle.rules.specs.BuildFrom.{Source}
use Rattle.appends.specs.Nodes.Lays.{Lays}

abbrev pub source_of : Node Built → Scope → ℕ → Source
source_of n s l = record { node = n; scope = s; line = l }

abbrev pub stage_of : Node Built → Scope → Stage
stage_of n s = record { node = n; scope = s }

-- a FROM item with scope s and line l, whose node lays cs and rs
pub record SourceLaid (r : Answer Source) (s : Scope) (l i k : ℕ) (cs : List Cell) (rs : List NodeRecord) (j m : ℕ)
    : Type 0 where
  pub node : Node Built
  pub answer : r ≡ ok (source_of node s l)
  pub lays : Lays i k node cs rs j m

-- a stage with scope s, whose node lays cs and rs
pub record StageLaid (r : Answer Stage) (s : Scope) (i k : ℕ) (cs : List Cell) (rs : List NodeRecord) (j m : ℕ)
    : Type 0 where
  pub node : Node Built
  pub answer : r ≡ ok (stage_of node s)
  pub lays : Lays i k node cs rs j m

-- a stage that keeps the scope: its node lays cs and rs
pub record NodeLaid (r : Answer (Node Built)) (i k : ℕ) (cs : List Cell) (rs : List NodeRecord) (j m : ℕ) : Type 0 where
  pub node : Node Built
  pub answer : r ≡ ok node
  pub lays : Lays i k node cs rs j m
