-- `sets::write_set`: its column, its value and its numbers.
use Rattle.plan.specs.Emits.{exit}
use Rattle.schema.specs.Layout.{table_at}
use Rattle.build_update.specs.Writes.{set-unfound, set-refused, set-root, set-written}
use Rattle.build_update.proofs.sets.write_set.Goals as goal

pub overflow_sub-next : goal.overflow_sub-next
overflow_sub-next c = set-root _ _ _
    c.args.scope.now.labels.now c.args.scope.now.matches.now c.args.scope.now.tables.now
    (table_at c.args.exprs.now.texts.catalog.now c.args.exprs.now.texts.statement.now c.args.tables.now c.args.i).columns c.args.e c.args.cell
    c.name_or-name.ensures c.lookup-found.ensures c.position_of.ensures
    _ c.in_ok-j.was c.build_set.ensures _ c.in_ok-next.was

pub returns : goal.returns
returns c = set-written _ _ _
    c.args.scope.now.labels.now c.args.scope.now.matches.now c.args.scope.now.tables.now
    (table_at c.args.exprs.now.texts.catalog.now c.args.exprs.now.texts.statement.now c.args.tables.now c.args.i).columns c.args.e c.args.cell
    c.name_or-name.ensures c.lookup-found.ensures c.position_of.ensures
    _ c.in_ok-j.was c.build_set.ensures _ c.in_ok-next.was c.set.ensures

pub returns-in_err-next : goal.returns-in_err-next
returns-in_err-next c = λ h. rw (exit c.from_residual-in_err-next.result c.from_residual-in_err-next.ensures.1) (set-refused _ _ _
    c.args.scope.now.labels.now c.args.scope.now.matches.now c.args.scope.now.tables.now
    (table_at c.args.exprs.now.texts.catalog.now c.args.exprs.now.texts.statement.now c.args.tables.now c.args.i).columns c.args.e c.args.cell
    c.name_or-name.ensures c.lookup-found.ensures c.position_of.ensures
    _ c.in_ok-j.was c.build_set.ensures _ c.in_err-next.was h)

pub returns-in_err-j : goal.returns-in_err-j
returns-in_err-j c = λ h. rw (exit c.from_residual.result c.from_residual.ensures.1) (set-unfound _ _ _
    c.args.scope.now.labels.now c.args.scope.now.matches.now c.args.scope.now.tables.now
    (table_at c.args.exprs.now.texts.catalog.now c.args.exprs.now.texts.statement.now c.args.tables.now c.args.i).columns c.args.e c.args.cell
    c.name_or-name.ensures c.lookup-found.ensures c.position_of.ensures
    _ c.in_err-j.was h)
