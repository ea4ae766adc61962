-- `update::end_update`: the scan, the sets and the end.
use native.Mathlib.Omega.{arith}
use Rattle.plan.specs.Emits.{exit}
use mathlib.Core.Path.{sym, ◌∙◌}
use Rattle.std.specs.Prelude.{take}
use Rattle.scope.specs.Scopes.{labels_of, table_numbers}
use Rattle.schema.specs.Layout.{table_at}
use Rattle.build_expression.specs.Builds.{scope_at}
use Rattle.build_update.specs.SoFar.{sets-length}
use Rattle.build_update.specs.Updates.{update-head-room, sets-cells-room, sets-numbers-room, update-room, update-stops, update-ends}
use Rattle.build_update.proofs.update.end_update.Goals as goal

pub scan-requires : goal.scan-requires
scan-requires c = record {
  room = omega (arith, c.requires.free.none, c.requires.free.nodes_room);
  root = omega (arith, c.requires.root_behind, c.requires.few_sets.cells);
}

pub update-requires : goal.update-requires
update-requires c = update-head-room c.args.exprs.now.texts.catalog.now c.args.exprs.now.texts.statement.now c.args.tables.now c.args.target.now.table c.args.target.now.name.address c.args.target.now.name.length _ c.requires.free c.clipped-name.ensures.address c.clipped-name.ensures.length c.scan.ensures

pub write_sets-requires : goal.write_sets-requires
write_sets-requires c = record {
  room = sets-cells-room c.args.exprs.now.texts.catalog.now c.args.exprs.now.texts.statement.now c.args.tables.now c.args.target.now.table c.args.target.now.name.address c.args.target.now.name.length _ c.requires.free c.clipped-name.ensures.address c.clipped-name.ensures.length c.scan.ensures
      c.count-sets.result c.key.ensures c.update.ensures c.args.target.now.filter.cell c.requires.few_sets;
  nodes_room = sets-numbers-room c.args.exprs.now.texts.catalog.now c.args.exprs.now.texts.statement.now c.args.tables.now c.args.target.now.table c.args.target.now.name.address c.args.target.now.name.length _ c.requires.free c.clipped-name.ensures.address c.clipped-name.ensures.length c.scan.ensures
      c.count-sets.result c.key.ensures c.update.ensures c.args.target.now.filter.cell c.requires.few_sets;
}

pub finish-requires : goal.finish-requires
finish-requires c = update-room c.args.exprs.now.texts.catalog.now c.args.exprs.now.texts.statement.now c.args.tables.now c.args.target.now.table c.args.target.now.name.address c.args.target.now.name.length _ c.requires.free c.clipped-name.ensures.address c.clipped-name.ensures.length c.scan.ensures
    c.count-sets.result c.key.ensures c.update.ensures c.args.target.now.filter.cell c.requires.few_sets
    (scope_at _ _ _
    (labels_of c.args.target.now.scope) (take c.args.target.now.scope.width c.args.target.now.scope.matches) (table_numbers c.args.target.now.scope) 0)
    (table_at c.args.exprs.now.texts.catalog.now c.args.exprs.now.texts.statement.now c.args.tables.now c.args.target.now.table).columns (c.count-sets.ensures _ _ _ ∙ sym (sets-length _ _ _ _))
    (rw (c.view-view.ensures.labels, c.view-view.ensures.matches, c.view-view.ensures.tables) at (c.write_sets.ensures 0)) _ c.in_ok-written.was

pub returns : goal.returns
returns c = λ h. update-ends c.args.exprs.now.texts.catalog.now c.args.exprs.now.texts.statement.now c.args.tables.now c.args.target.now.table c.args.target.now.name.address c.args.target.now.name.length _ c.requires.free c.clipped-name.ensures.address c.clipped-name.ensures.length c.scan.ensures
    c.count-sets.result c.key.ensures c.update.ensures c.args.target.now.filter.cell c.requires.few_sets
    (scope_at _ _ _
    (labels_of c.args.target.now.scope) (take c.args.target.now.scope.width c.args.target.now.scope.matches) (table_numbers c.args.target.now.scope) h)
    (table_at c.args.exprs.now.texts.catalog.now c.args.exprs.now.texts.statement.now c.args.tables.now c.args.target.now.table).columns (c.count-sets.ensures _ _ _ ∙ sym (sets-length _ _ _ _))
    (rw (c.view-view.ensures.labels, c.view-view.ensures.matches, c.view-view.ensures.tables) at (c.write_sets.ensures h)) _ c.in_ok-written.was c.finish.auto.area c.finish.ensures

pub returns-in_err-written : goal.returns-in_err-written
returns-in_err-written c = λ h. rw (exit c.from_residual.result c.from_residual.ensures.1) (update-stops c.args.exprs.now.texts.catalog.now c.args.exprs.now.texts.statement.now c.args.tables.now c.args.target.now.table c.args.target.now.name.address c.args.target.now.name.length _ c.requires.free c.clipped-name.ensures.address c.clipped-name.ensures.length c.scan.ensures
    c.count-sets.result c.key.ensures c.update.ensures c.args.target.now.filter.cell c.requires.few_sets
    (scope_at _ _ _
    (labels_of c.args.target.now.scope) (take c.args.target.now.scope.width c.args.target.now.scope.matches) (table_numbers c.args.target.now.scope) h)
    (table_at c.args.exprs.now.texts.catalog.now c.args.exprs.now.texts.statement.now c.args.tables.now c.args.target.now.table).columns (c.count-sets.ensures _ _ _ ∙ sym (sets-length _ _ _ _))
    (rw (c.view-view.ensures.labels, c.view-view.ensures.matches, c.view-view.ensures.tables) at (c.write_sets.ensures h)) _ c.in_err-written.was)
