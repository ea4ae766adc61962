-- `rows::build_limit`: a limit's node.
use Rattle.numbers.specs.Reasons.{reason_of}
use Rattle.build_clauses.specs.Rows.{limit-node}
use Rattle.build_clauses.proofs.rows.build_limit.Goals as goal

pub returns : goal.returns
unfolding reason_of
returns c = c.build_rows.ensures _ _ limit-node
