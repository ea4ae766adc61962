-- `lists::build_groups`: row by row.
use Prim.Native.Nat.{◌+◌, ◌≤◌}
use lib.ListN.{length}
use Rattle.ast.specs.Table.{tree_at}
use Rattle.build_aggregate.specs.Entries.{RowLoop}
use Rattle.build_aggregate.specs.Kinds.{groups_listing}
use Rattle.build_aggregate.proofs.lists.build_groups.Given as goal

abbrev pub invariant-loop-r : goal.invariant-loop-r
invariant-loop-r l = (l.initial.nodes.used + length l.rows ≤ length l.initial.nodes.numbers.now)
    × RowLoop (groups_listing l.exprs.texts.catalog.now l.exprs.texts.statement.now l.exprs.table.now l.scope.labels.now
    l.scope.matches.now l.scope.tables.now)
    (tree_at l.exprs.texts.catalog.now l.exprs.texts.statement.now l.exprs.table.now) l.rows l.cell l.initial.area
    l.initial.nodes l.r-index l.m l.area l.nodes
