-- `rows::collect_section`: of the aggregates those of the entries from the i-th on are still to come.
use Prim.Native.Nat.{◌-◌}
use Rattle.entries.specs.Sections.{number_of}
use Rattle.ast.specs.Listed.{Listing}
use Rattle.build_groups.specs.Rows.{entry_rows, section_rows, collect_each_rows}
use Rattle.build_groups.proofs.rows.collect_section.Given as goal

abbrev pub invariant-loop-i : goal.invariant-loop-i
invariant-loop-i l =
    Listing (collect_each_rows l.exprs.texts.catalog.now l.exprs.texts.statement.now l.exprs.table.now (section_rows l.parts (number_of l.kind)))
    (collect_each_rows l.exprs.texts.catalog.now l.exprs.texts.statement.now l.exprs.table.now (entry_rows l.parts (number_of l.kind) l.i (l.n - l.i)))
    l.fn.rows l.rows
