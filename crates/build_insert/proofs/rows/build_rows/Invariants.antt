-- `rows::build_rows`: row by row.
use Rattle.build_insert.specs.Rows.{RowsSoFar}
use Rattle.build_insert.proofs.rows.build_rows.Given as goal

abbrev pub invariant-loop-i : goal.invariant-loop-i
invariant-loop-i l =
    RowsSoFar l.exprs.texts.catalog.now l.exprs.texts.statement.now l.exprs.table.now l.parts l.initial.area l.initial.nodes l.i l.built l.area l.nodes
