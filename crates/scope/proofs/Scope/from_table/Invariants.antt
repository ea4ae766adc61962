-- `Scope::from_table`: the labels so far are those of the table's first columns.
use Rattle.scope.specs.FromTable.{Storing}
use Rattle.scope.proofs.Scope.from_table.Given as goal

abbrev pub invariant-loop-j : goal.invariant-loop-j
invariant-loop-j l = Storing l.catalog l.i l.j l.labels
