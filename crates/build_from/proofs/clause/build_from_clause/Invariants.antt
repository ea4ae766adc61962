-- `clause::build_from_clause`: in each turn the items behind the first i are left.
use lib.ListN.{drop}
use Rattle.from.specs.Layout.{froms_at}
use Rattle.build_from.specs.Parts.{PartAccepted}
use Rattle.build_from.proofs.clause.build_from_clause.Given as goal

abbrev pub invariant-loop-i : goal.invariant-loop-i
invariant-loop-i l =
    PartAccepted l.exprs.texts.catalog.now l.exprs.texts.statement.now l.tables l.exprs.table.now (froms_at l.exprs.texts.catalog.now l.exprs.texts.statement.now l.exprs.table.now l.froms l.rows)
    (drop l.i (froms_at l.exprs.texts.catalog.now l.exprs.texts.statement.now l.exprs.table.now l.froms l.rows)) l.fn.area l.fn.nodes l.area l.nodes l.clause
