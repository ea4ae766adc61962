-- What a stage of building has come to (planner.rs, `node` and `scope` of build_select).
use Rattle.rules.specs.Plan.{Built, Node}
use Rattle.rules.specs.Scope.{Scope}

-- the node, and the scope in which the next clause is built over its rows
pub record Stage : Type 0 where
  pub node : Node Built
  pub scope : Scope
