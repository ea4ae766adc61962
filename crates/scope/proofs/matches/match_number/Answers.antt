-- `matches::match_number`: one more than the row.
use native.Mathlib.Omega.{arith}
use Rattle.scope.specs.NewMatch.{match_number}
use Rattle.scope.proofs.matches.match_number.Goals as goal

pub returns : goal.returns
unfolding match_number
returns c = omega (arith, c.min.ensures)
