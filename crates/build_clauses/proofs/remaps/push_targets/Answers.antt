-- `remaps::push_targets`: the targets of the columns so far.
use Rattle.build_clauses.specs.Remaps.{pushing-more, pushing-end}
use Rattle.build_clauses.proofs.remaps.push_targets.Goals as goal

pub loop-i-preserved : goal.loop-i-preserved
loop-i-preserved c = pushing-more c.loop-i.invariant c.requires.hidden_le_width c.loop-i-test.true _ c.hidden_target.ensures c.push.ensures

pub returns : goal.returns
returns c = pushing-end c.loop-i.invariant c.requires.hidden_le_width c.loop-i-test.false
