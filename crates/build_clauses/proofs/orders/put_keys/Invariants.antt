-- `orders::put_keys`: the cells and parts of the keys so far, and the keys that are left.
use Rattle.build_clauses.specs.Keys.{Putting}
use Rattle.build_clauses.proofs.orders.put_keys.Given as goal

abbrev pub invariant-loop-i : goal.invariant-loop-i
invariant-loop-i l = Putting l.exprs.texts.catalog.now l.exprs.texts.statement.now l.exprs.table.now l.parts l.scope.labels.now l.scope.matches.now l.scope.tables.now l.cell l.initial.area l.initial.nodes l.i l.p l.area l.nodes
