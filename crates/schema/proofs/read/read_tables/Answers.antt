-- `read_tables`: the tables read, and the rest by the rules from here, are what the rules read in all.
use native.Mathlib.Omega.{arith}
use mathlib.Core.Path.{refl, ◌∙◌}
use Rattle.std.proofs.lemmas.Result.{err_from_is_err_and}
use Rattle.schema.specs.TableRuns.{tables-begin, tables_end, tables-refused, table_done, tables-on}
use Rattle.schema.proofs.read.read_tables.Goals as goal

pub loop-at-init : goal.loop-at-init
loop-at-init c = (refl, tables-begin _ _ c.requires.0 c.requires.1)

pub loop-at-smaller : goal.loop-at-smaller
loop-at-smaller c = omega (arith, (table_done c.loop-at.invariant.1 c.read_table.ensures c.in_ok-run.was).moved, (table_done c.loop-at.invariant.1 c.read_table.ensures c.in_ok-run.was).within)

pub loop-at-preserved : goal.loop-at-preserved
loop-at-preserved c = (c.read_table.auto.tables ∙ c.loop-at.invariant.0, tables-on c.loop-at.invariant.1 c.read_table.ensures c.in_ok-run.was c.read_table.auto.tables)

pub returns-in_err-run : goal.returns-in_err-run
returns-in_err-run c q = let p = err_from_is_err_and c.from_residual.result c.from_residual.ensures.1 in rw (p.1, p.2) (tables-refused c.loop-at.invariant.1 c.read_table.ensures c.in_err-run.was q)

pub returns : goal.returns
returns c = tables_end c.loop-at.invariant.1 c.loop-at-test.false
