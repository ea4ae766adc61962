-- `read_froms`: the trees so far, and those that the rules read from here on, are what they read in all.
use native.Mathlib.Omega.{arith}
use mathlib.Core.Path.{sym, ◌∙◌}
use Rattle.std.proofs.lemmas.Result.{err_from_is_err_and}
use Rattle.from.specs.Runs.{froms-begin, froms-end, froms-stopped, froms-moved, froms-on}
use Rattle.from.proofs.read_froms.Goals as goal

pub loop-cells-init : goal.loop-cells-init
loop-cells-init c = froms-begin c.requires

pub loop-cells-smaller : goal.loop-cells-smaller
loop-cells-smaller c = let m = froms-moved c.loop-cells.invariant (sym (c.from_stands.ensures _ _ _) ∙ c.loop-cells-test.true) _ _ _ c.in_ok-froms.ensures in omega (arith, m.0, m.1)

pub loop-cells-preserved : goal.loop-cells-preserved
loop-cells-preserved c = froms-on c.loop-cells.invariant (sym (c.from_stands.ensures _ _ _) ∙ c.loop-cells-test.true) _ _ _ c.in_ok-froms.ensures

pub returns-in_err-froms : goal.returns-in_err-froms
returns-in_err-froms c = let p = err_from_is_err_and c.from_residual.result c.from_residual.ensures.1 in rw (p.1, p.2) (froms-stopped c.loop-cells.invariant (sym (c.from_stands.ensures _ _ _) ∙ c.loop-cells-test.true) _ _ _ c.in_err-froms.ensures)

pub returns : goal.returns
returns c = froms-end c.loop-cells.invariant (sym (c.from_stands.ensures _ _ _) ∙ c.loop-cells-test.false)
