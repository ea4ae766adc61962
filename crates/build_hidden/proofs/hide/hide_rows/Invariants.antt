-- `hide::hide_rows`: what the rows so far hide, and the rows that are left.
use Rattle.build_hidden.specs.Hide.{HidingRows}
use Rattle.build_hidden.proofs.hide.hide_rows.Given as goal

abbrev pub invariant-loop-r : goal.invariant-loop-r
invariant-loop-r l =
    HidingRows l.exprs.texts.catalog.now l.exprs.texts.statement.now l.exprs.table.now l.parent.labels.now l.parent.matches.now
    l.parent.tables.now l.rows l.initial.scope l.initial.positions
    l.r-index l.scope l.positions
