-- `build_expression`: the tree, built over the matches that are there.
use Rattle.build_expression.specs.Builds.{used-builds}
use Rattle.build_expression.proofs.build_expression.Goals as goal

pub returns : goal.returns
returns c = used-builds _ c.used.ensures.matches (rw (c.used.ensures.labels, c.used.ensures.tables) at c.build_tree.ensures)
