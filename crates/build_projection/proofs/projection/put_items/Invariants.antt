-- `projection::put_items`: the cells, parts and labels of the items so far, and the items that are left.
use mathlib.Core.List.{[], map}
use Rattle.rules.specs.Limits.{most_columns}
use Rattle.numbers.specs.Kept.{Kept}
use Rattle.scope.specs.Copies.{Copying}
use Rattle.build_projection.specs.Labels.{label_number}
use Rattle.build_projection.specs.Pushes.{Pushing}
use Rattle.build_projection.proofs.projection.put_items.Given as goal

abbrev pub invariant-loop-i : goal.invariant-loop-i
invariant-loop-i l =
    Pushing l.exprs.texts.catalog.now l.exprs.texts.statement.now l.exprs.table.now l.parts l.scope.labels.now l.scope.matches.now l.scope.tables.now l.items l.fn.cell l.initial.area l.area
    l.initial.nodes l.nodes l.i l.m
    × Copying [] 0 (map (label_number l.exprs.texts.catalog.now l.exprs.texts.statement.now l.exprs.table.now l.parts l.scope.labels.now l.scope.matches.now
    l.scope.tables.now) l.items) l.i l.projected
    × Kept l.i most_columns l.initial.projected l.projected
