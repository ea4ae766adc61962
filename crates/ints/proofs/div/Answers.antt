-- `ints::div` meets its contract.
use Rattle.ints.proofs.Operations.{of-div, quotient-none}
use Rattle.ints.proofs.div.Goals as goal

pub returns-then-y-eq0 : goal.returns-then-y-eq0
returns-then-y-eq0 c = quotient-none c.args.x c.args.y c.ranges.y c.if-y-eq0.true

pub returns : goal.returns
returns c = of-div c.args.x c.ranges.x _ c.ok_or.ensures.value c.args.y c.ranges.y c.if-y-eq0.false c.checked_div.ensures
