-- `walk::contains`: that walk's answer turned round.
use mathlib.Core.Path.{ap}
use mathlib.Core.Bool.{not}
use Rattle.rules.specs.BuildAggregate.{contains}
use Rattle.ast.proofs.walk.contains.Goals as goal

pub returns : goal.returns
unfolding contains
returns c = ap not c.walk_free.ensures
