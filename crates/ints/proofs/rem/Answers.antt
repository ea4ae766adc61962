-- `ints::rem` meets its contract.
use Rattle.ints.proofs.Operations.{of-rem, remainder-none}
use Rattle.ints.proofs.rem.Goals as goal

pub returns-then-y-eq0 : goal.returns-then-y-eq0
returns-then-y-eq0 c = remainder-none c.args.x c.args.y c.ranges.y c.if-y-eq0.true

pub returns : goal.returns
returns c = of-rem c.args.x c.ranges.x _ c.ok_or.ensures.value c.args.y c.ranges.y c.if-y-eq0.false c.checked_rem.ensures
