-- `matches::new_match`: the row, where no column before is matched to an equal expression.
use mathlib.Core.Path.{◌∙◌}
use Rattle.scope.specs.NewMatch.{new_none, new_row}
use Rattle.scope.proofs.matches.new_match.Goals as goal

pub returns-in-Some : goal.returns-in-Some
returns-in-Some c = new_none _ _ _ c.matched.ensures.value c.in-Some.is

pub returns-in-None : goal.returns-in-None
returns-in-None c = c.match_number.ensures
    ∙ new_row _ _ _ c.matched.ensures.value c.in-None.is
