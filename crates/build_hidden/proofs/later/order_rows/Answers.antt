-- `later::order_rows`: the rows of the keys so far, and the keys that are left.
use Rattle.build_hidden.specs.Later.{keys-begin, keys-fits, keys-more, keys-end}
use Rattle.build_hidden.proofs.later.order_rows.Goals as goal

pub loop-k-init : goal.loop-k-init
loop-k-init c = keys-begin c.requires

pub visit_rows-requires : goal.visit_rows-requires
visit_rows-requires c = keys-fits c.requires c.loop-k.invariant _ c.count-total.ensures c.loop-k-test.true
    c.entry_at-e.ensures c.expr_row.ensures

pub loop-k-preserved : goal.loop-k-preserved
loop-k-preserved c = keys-more c.requires c.loop-k.invariant _ c.count-total.ensures c.loop-k-test.true
    c.entry_at-e.ensures c.expr_row.ensures
    c.visit_rows.ensures

pub returns : goal.returns
returns c = keys-end c.requires c.loop-k.invariant _ c.count-total.ensures c.loop-k-test.false
