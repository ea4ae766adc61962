-- `stars::put_columns`: the rows of all labels, one after the other.
use mathlib.Core.Path.{◌∙◌}
use Rattle.build_projection.specs.Stars.{putting-more, putting-end}
use borrow.Author.Rules.{rules}
use Rattle.build_projection.proofs.stars.put_columns.Goals as goal

pub loop-i-preserved : goal.loop-i-preserved
loop-i-preserved c = (search rules, search rules, c.put_column.auto.cells ∙ c.loop-i.invariant.2, putting-more c.loop-i.invariant.3 c.loop-i-test.true c.put_column.ensures)

pub returns : goal.returns
returns c = putting-end c.loop-i.invariant.3 c.loop-i-test.false
