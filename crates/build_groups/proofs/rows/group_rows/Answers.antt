-- `rows::group_rows`: of the groups' rows those from the i-th on are still to come.
use Rattle.build_groups.specs.Rows.{section-entries}
use Rattle.build_groups.specs.Collects.{row_room, row_put, rows_end}
use Rattle.build_groups.proofs.rows.group_rows.Goals as goal

pub loop-i-init : goal.loop-i-init
loop-i-init c = rw (section-entries _ _ _ c.count-n.ensures) (record { room = c.requires; rest = λ u a. a })

pub push-requires : goal.push-requires
push-requires c = row_room _ _ _ _ c.loop-i.invariant c.loop-i-test.true

pub loop-i-preserved : goal.loop-i-preserved
loop-i-preserved c = row_put _ _ _ _ c.loop-i.invariant c.loop-i-test.true c.entry_at.ensures c.expr_row.ensures c.push.ensures

pub returns : goal.returns
returns c = rows_end _ _ _ _ c.loop-i.invariant c.loop-i-test.false
