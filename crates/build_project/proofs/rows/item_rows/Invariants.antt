-- `rows::item_rows`: the rows stored so far.
use mathlib.Core.List.{[], map}
use Rattle.scope.specs.Copies.{Copying}
use Rattle.build_projection.specs.Aliases.{row_of}
use Rattle.build_project.proofs.rows.item_rows.Given as goal

abbrev pub invariant-loop-i : goal.invariant-loop-i
invariant-loop-i l = Copying [] 0 (map (row_of l.parts) l.items) l.i l.rows
