-- `positive`: within the greatest integer, or none.
use Rattle.literal.specs.Integers.{positive-large, positive-in}
use Rattle.literal.proofs.positive.Goals as goal

pub returns-then-m-gt-GREATEST : goal.returns-then-m-gt-GREATEST
returns-then-m-gt-GREATEST c = positive-large _ c.if-m-gt-GREATEST.true

pub returns : goal.returns
returns c = positive-in _ c.if-m-gt-GREATEST.false
