-- `numbers`: the fields of the numbers counted are put.
use Rattle.listing.specs.Fields.{fields-none, fields-same}
use Rattle.listing.specs.Lines.{each, listed, fields-more, fields-all}
use Rattle.listing.specs.Rows.{number_same}
use Rattle.listing.proofs.put.Writer.numbers.Goals as goal

pub loop-i-init : goal.loop-i-init
unfolding listed
loop-i-init c = fields-none

pub loop-i-preserved : goal.loop-i-preserved
loop-i-preserved c = fields-more _ c.loop-i.invariant (fields-same c.number-in-loop-i.ensures (λ d q. number_same _ _ c.number.ensures))

pub returns : goal.returns
unfolding each
returns c = fields-all _ c.loop-i.invariant c.loop-i.auto.i-end c.loop-i-test.false
