-- `stars::put_columns`: the rows of all labels, one after the other.
use Rattle.build_projection.specs.Stars.{Putting}
use Prim.Native.Nat.{◌+◌, ◌≤◌}
use mathlib.Core.Path.{◌≡◌}
use lib.ListN.{length}
use Rattle.ast.specs.Table.{starred_rows}
use Rattle.build_projection.proofs.stars.put_columns.Given as goal

abbrev pub invariant-loop-i : goal.invariant-loop-i
invariant-loop-i l = (l.k + length l.labels ≤ starred_rows) × (l.i ≤ length l.labels) × (length l.cells ≡ length l.initial.cells)
    × Putting l.initial.cells l.tables l.labels l.k l.line l.i l.cells
