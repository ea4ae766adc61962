-- `matches::pass_match`: the match, where no column before is matched to an equal expression.
use Rattle.scope.specs.NewMatch.{pass-none, pass-some}
use Rattle.scope.proofs.matches.pass_match.Goals as goal

pub returns-then-m-eq0 : goal.returns-then-m-eq0
returns-then-m-eq0 c = pass-none _ _ _ c.if-m-eq0.true

pub returns : goal.returns
returns c = pass-some _ _ _ _ c.if-m-eq0.false c.new_match.ensures
