-- `rows::build_values`: value by value.
use Prim.Native.Nat.{◌-◌}
use Rattle.build_insert.specs.Values.{ValuesSoFar}
use Rattle.build_insert.proofs.rows.build_values.Given as goal

abbrev pub invariant-loop : goal.invariant-loop
invariant-loop l =
    ValuesSoFar l.exprs.texts.catalog.now l.exprs.texts.statement.now l.exprs.table.now l.values l.r l.cell l.initial.area l.initial.nodes (l.values - l.counter) l.row l.built l.area l.nodes
