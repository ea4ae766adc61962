-- `stop_at`: from here on the first such byte is the one that is looked for.
use mathlib.Core.Path.{sym, ◌∙◌}
use Rattle.text.specs.Bytes.{stop-none, stop-here, stop_step}
use Rattle.text.proofs.stop_at.Goals as goal

pub returns-then-b-x : goal.returns-then-b-x
returns-then-b-x c = sym (stop-here _ _ _ _ c.loop-i-test.true c.then-b-x.either) ∙ c.loop-i.invariant

pub loop-i-preserved : goal.loop-i-preserved
loop-i-preserved c = sym (stop_step _ _ _ _ c.loop-i-test.true c.if-b-x.false c.if-b-y.false) ∙ c.loop-i.invariant

pub returns : goal.returns
returns c = sym (stop-none _ _ _ _ c.loop-i-test.false) ∙ c.loop-i.invariant
