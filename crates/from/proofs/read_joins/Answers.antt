-- `read_joins`: what the rules read from here on, behind the sides that are read, is what they read in all.
use mathlib.Core.Path.{refl, ◌∙◌}
use Rattle.std.proofs.lemmas.Result.{err_from_is_err_and}
use Rattle.from.specs.Turns.{turn_on, turn_end, turn-refused}
use Rattle.from.specs.Loop.{loop-begin}
use Rattle.from.proofs.read_joins.Goals as goal

pub loop-x-init : goal.loop-x-init
loop-x-init c = (refl, loop-begin _ c.requires.ready c.requires.stack_room)

pub loop-x-smaller : goal.loop-x-smaller
loop-x-smaller c = (turn_on _ _ _ _ _ _ _ (rw c.in-Some.is at (c.in_ok-x.ensures _ c.loop-x.invariant.1))).falls

pub loop-x-preserved : goal.loop-x-preserved
loop-x-preserved c = let w = turn_on _ _ _ _ _ _ _ (rw c.in-Some.is at (c.in_ok-x.ensures _ c.loop-x.invariant.1)) in (w.same ∙ c.loop-x.invariant.0, w.reads)

pub returns-in_err-x : goal.returns-in_err-x
returns-in_err-x c = let p = err_from_is_err_and c.from_residual.result c.from_residual.ensures.1 in rw (p.1, p.2) (turn-refused _ _ _ _ _ _ _ _ (c.in_err-x.ensures _ c.loop-x.invariant.1))

pub returns : goal.returns
returns c = turn_end _ _ _ _ _ _ _ (rw c.in_default.is at (c.in_ok-x.ensures _ c.loop-x.invariant.1))
