-- `walk::visit_rows`: what is left of the table falls with each call; the rows so far are those of the walk up to the
-- operands left.
use Prim.Native.Nat.{◌*◌, ◌-◌, ◌<◌}
use lib.ListN.{length}
use Rattle.ast.specs.Table.{row_size}
use Rattle.build_hidden.specs.Rows.{Visiting}
use Rattle.build_hidden.proofs.walk.+visit_rows.Given as goal

abbrev pub decreases-visit_rows : goal.decreases-visit_rows
decreases-visit_rows l = length l.table.now - l.r

abbrev pub invariant-loop : goal.invariant-loop
invariant-loop l =
    (l.r < l.p) × (row_size * l.r < length l.table)
    × Visiting l.table l.r l.any l.fn.rows (l.left - l.counter) l.p l.rows
