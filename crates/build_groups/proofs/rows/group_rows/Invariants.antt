-- `rows::group_rows`: of the groups' rows those from the i-th on are still to come.
use Prim.Native.Nat.{◌-◌}
use Rattle.sections.specs.Access.{group_kind}
use Rattle.ast.specs.Listed.{Listing}
use Rattle.build_groups.specs.Rows.{entry_rows, section_rows}
use Rattle.build_groups.proofs.rows.group_rows.Given as goal

abbrev pub invariant-loop-i : goal.invariant-loop-i
invariant-loop-i l =
    Listing (section_rows l.parts group_kind) (entry_rows l.parts group_kind l.i (l.n - l.i)) l.fn.rows l.rows
