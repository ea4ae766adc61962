-- `remainder::reduced` meets its contract.
use Rattle.remainder.proofs.Sizes.{difference, smaller}
use Rattle.remainder.proofs.reduced.Goals as goal

pub returns-then-t-x-clause-size : goal.returns-then-t-x-clause-size
returns-then-t-x-clause-size c = (difference c.args.x c.args.t c.well_formed.0.1 c.well_formed.1.0.1 c.requires.number c.requires.divisor c.if-t-x.true c.requires.below).0

pub returns-then-t-x-clause-value : goal.returns-then-t-x-clause-value
returns-then-t-x-clause-value c = (difference c.args.x c.args.t c.well_formed.0.1 c.well_formed.1.0.1 c.requires.number c.requires.divisor c.if-t-x.true c.requires.below).1

pub returns-else-t-x-clause-value : goal.returns-else-t-x-clause-value
returns-else-t-x-clause-value c = smaller c.args.x c.args.t c.well_formed.0.1 c.well_formed.1.0.1 c.requires.number c.requires.divisor c.if-t-x.false
