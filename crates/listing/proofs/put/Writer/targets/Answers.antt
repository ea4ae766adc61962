-- `targets`: the fields of the numbers counted are put.
use Rattle.listing.specs.Fields.{fields-none, fields-same}
use Rattle.listing.specs.Lines.{each, listed, fields-more, fields-all}
use Rattle.listing.specs.Nodes.{targets_fields}
use Rattle.listing.specs.Rows.{target_at}
use Rattle.listing.proofs.put.Writer.targets.Goals as goal

pub loop-x-init : goal.loop-x-init
unfolding listed
loop-x-init c = fields-none

pub loop-x-preserved : goal.loop-x-preserved
loop-x-preserved c = fields-more _ c.loop-x.invariant (fields-same c.column_target.ensures (λ d q. rw c.of_number.ensures (target_at _ _)))

pub returns : goal.returns
unfolding each targets_fields
returns c = fields-all _ c.loop-x.invariant c.loop-x.auto.x-index-end c.loop-x-test.false
