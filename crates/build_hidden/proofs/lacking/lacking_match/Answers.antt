-- `lacking::lacking_match`: the child is asked where the parent has a match.
use Rattle.build_hidden.specs.Lacking.{lacks-nothing, lacks-some}
use Rattle.build_hidden.proofs.lacking.lacking_match.Goals as goal

pub returns-in_err-i : goal.returns-in_err-i
returns-in_err-i c = rw c.from_residual.ensures (lacks-nothing _ _ c.lookup_aggregate.ensures c.in_err-i.was)

pub returns : goal.returns
returns c = rw c.then_some.ensures (lacks-some _ _ _ _ _ c.lookup_aggregate.ensures c.lookup_aggregate-2.ensures c.in_ok-i.was c.is_none.ensures)
