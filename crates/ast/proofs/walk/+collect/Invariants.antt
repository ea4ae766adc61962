-- `walk::collect`: what is left of the table falls with each call; what the operands left give from here on is what the whole gives.
use Prim.Native.Nat.{◌*◌, ◌-◌, ◌<◌}
use lib.ListN.{length}
use Rattle.ast.specs.Collect.{collect_rows}
use Rattle.ast.specs.Table.{row_size}
use Rattle.ast.proofs.Collects.{Collecting}
use Rattle.ast.proofs.walk.+collect.Given as goal

abbrev pub decreases-collect : goal.decreases-collect
decreases-collect l = length l.exprs.now.table.now - l.r

abbrev pub invariant-loop : goal.invariant-loop
invariant-loop l = (l.r < l.p) × (row_size * l.r < length l.exprs.table.now)
    × Collecting (collect_rows l.exprs.texts.catalog.now l.exprs.texts.statement.now l.exprs.table.now) l.exprs.table.now
    (collect_rows l.exprs.texts.catalog.now l.exprs.texts.statement.now l.exprs.table.now l.r)
    l.fn.rows (l.operands - l.counter) l.p l.rows
