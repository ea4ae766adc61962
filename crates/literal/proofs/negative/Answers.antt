-- `negative`: not zero, and within the lowest integer.
use Rattle.std.proofs.Common.{arith}
use Rattle.literal.specs.Integers.{negative-large, negative-zero, negative-in}
use Rattle.literal.proofs.negative.Goals as goal

pub returns-then-m : goal.returns-then-m
returns-then-m c = negative-large _ c.if-m.true

pub returns-then-m-eq0 : goal.returns-then-m-eq0
returns-then-m-eq0 c = negative-zero _ c.if-m-eq0.true

pub returns : goal.returns
returns c = negative-in _ _ c.if-m.false c.if-m-eq0.false c.wrapping_neg.ensures (omega arith)
