-- `rows::build_offset`: an offset's node.
use Rattle.numbers.specs.Reasons.{reason_of}
use Rattle.build_clauses.specs.Rows.{offset-node}
use Rattle.build_clauses.proofs.rows.build_offset.Goals as goal

pub returns : goal.returns
unfolding reason_of
returns c = c.build_rows.ensures _ _ offset-node
