-- `start_of`: by whether there is such a column.
use native.Mathlib.Omega.{arith}
use Rattle.std.specs.Prelude.{[]}
use mathlib.Core.Path.{◌∙◌}
use Rattle.schema.specs.Search.{start-in, start-out, columns-counted}
use Rattle.schema.proofs.start_of.Goals as goal

pub returns-then-column_count-j-clause-start : goal.returns-then-column_count-j-clause-start
returns-then-column_count-j-clause-start c = start-out _ c.args.i c.args.j (c.column_count.ensures [] [] ∙ columns-counted [] [] _ c.args.i) c.if-column_count-j.true

pub returns-clause-start : goal.returns-clause-start
returns-clause-start c = rw c.column_start.ensures (start-in _ c.args.i c.args.j c.first_column.ensures.is (c.column_count.ensures [] [] ∙ columns-counted [] [] _ c.args.i) c.if-column_count-j.false)

pub returns-clause-small : goal.returns-clause-small
returns-clause-small c = omega (arith, c.first_column.ensures.small, c.ranges.j)
