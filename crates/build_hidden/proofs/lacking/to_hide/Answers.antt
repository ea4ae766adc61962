-- `lacking::to_hide`: a match, or else a name.
use Rattle.build_hidden.specs.Lacking.{lacking-match, lacking-column}
use Rattle.build_hidden.proofs.lacking.to_hide.Goals as goal

pub returns-in-Some : goal.returns-in-Some
returns-in-Some c = lacking-match c.lacking_match-matched.ensures c.in-Some.is

pub returns-in-None : goal.returns-in-None
returns-in-None c = lacking-column c.lacking_match-matched.ensures c.in-None.is
    c.lacking_column.ensures
