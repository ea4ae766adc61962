-- `leaves::begin`: matched or not.
use Rattle.build_expression.specs.Leaves.{begins-matched}
use Rattle.build_expression.proofs.leaves.begin.Goals as goal

pub returns-in-Some : goal.returns-in-Some
returns-in-Some c = begins-matched _ _ _ _ _ _ _ _ _ _ _ _ c.lookup_aggregate-matched.ensures
    c.in-Some.is c.column.ensures
