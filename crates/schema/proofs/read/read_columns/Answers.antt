-- `read_columns`: the columns read, and the rest by the rules from here, are what the rules read in all.
use native.Mathlib.Omega.{arith}
use mathlib.Core.Path.{refl, ap, ◌∙◌}
use Rattle.std.specs.Prelude.{Ok}
use Rattle.std.proofs.lemmas.Result.{err_from_is_err_and}
use Rattle.schema.specs.ColumnRuns.{columns-begin, columns-end, columns-refused, column-moved, columns-on}
use Rattle.schema.proofs.read.read_columns.Goals as goal

pub loop-next-init : goal.loop-next-init
loop-next-init c = (refl, columns-begin _ _ _ _ _ c.requires)

pub returns-in_err-next : goal.returns-in_err-next
returns-in_err-next c = let p = err_from_is_err_and c.from_residual.result c.from_residual.ensures.1 in rw (p.1, p.2) (columns-refused c.loop-next.invariant.1 c.read_column.ensures c.in_err-next.was)

pub loop-next-smaller : goal.loop-next-smaller
loop-next-smaller c = let m = column-moved c.loop-next.invariant.1 c.read_column.ensures (c.in_ok-next.was ∙ ap Ok c.in-Some.is) in omega (arith, m.1, m.2)

pub loop-next-preserved : goal.loop-next-preserved
loop-next-preserved c = (c.read_column.auto.tables ∙ c.loop-next.invariant.0, columns-on c.loop-next.invariant.1 c.read_column.ensures (c.in_ok-next.was ∙ ap Ok c.in-Some.is) c.read_column.auto.tables)

pub returns : goal.returns
returns c = columns-end c.loop-next.invariant.1 c.read_column.ensures (c.in_ok-next.was ∙ ap Ok c.in_default.is)
