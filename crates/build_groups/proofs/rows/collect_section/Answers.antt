-- `rows::collect_section`: of the aggregates those of the entries from the i-th on are still to come.
use Rattle.build_groups.specs.Rows.{section-entries}
use Rattle.build_groups.specs.Collects.{collect-put, collect-end}
use Rattle.build_groups.proofs.rows.collect_section.Goals as goal

pub loop-i-init : goal.loop-i-init
loop-i-init c = rw (section-entries _ _ _ c.count-n.ensures) (record { room = c.requires; rest = λ u a. a })

pub loop-i-preserved : goal.loop-i-preserved
loop-i-preserved c = collect-put _ _ _ _ _ _ _ c.loop-i.invariant c.loop-i-test.true c.entry_at.ensures c.expr_row-r.ensures c.collect.ensures

pub returns : goal.returns
returns c = collect-end _ _ _ _ _ _ _ c.loop-i.invariant c.loop-i-test.false
