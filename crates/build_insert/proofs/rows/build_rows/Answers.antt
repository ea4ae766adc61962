-- `rows::build_rows`: row by row.
use Rattle.plan.specs.Emits.{exit}
use native.Mathlib.Omega.{arith}
use Rattle.build_insert.specs.Rows.{rows_none, rows-room, rows-space, rows-stop, rows_more, rows-done}
use Rattle.build_insert.proofs.rows.build_rows.Goals as goal

pub loop-i-init : goal.loop-i-init
loop-i-init c = rows_none _ _ _ _ _ _ c.requires.room c.requires.nodes_room

pub build_row-requires : goal.build_row-requires
build_row-requires c = record {
  room = rows-room c.loop-i.invariant _ c.entry_at-e.ensures (omega (
    arith,
    c.loop-i-test.true,
    c.count-rows.ensures c.args.exprs.now.texts.catalog.now
        c.args.exprs.now.texts.statement.now c.args.exprs.now.table.now,
  ));
  nodes_room = rows-space c.loop-i.invariant _ c.entry_at-e.ensures (omega (
    arith,
    c.loop-i-test.true,
    c.count-rows.ensures c.args.exprs.now.texts.catalog.now c.args.exprs.now.texts.statement.now c.args.exprs.now.table.now,
  ));
}

pub returns-in_err-built : goal.returns-in_err-built
returns-in_err-built c = rw (exit c.from_residual.result c.from_residual.ensures.1) (rows-stop c.loop-i.invariant _ c.entry_at-e.ensures (omega (
  arith,
  c.loop-i-test.true,
  c.count-rows.ensures c.args.exprs.now.texts.catalog.now
      c.args.exprs.now.texts.statement.now c.args.exprs.now.table.now,
)) c.build_row.ensures _ c.in_err-built.was)

pub loop-i-preserved : goal.loop-i-preserved
loop-i-preserved c = rows_more c.loop-i.invariant _ c.entry_at-e.ensures (omega (
  arith,
  c.loop-i-test.true,
  c.count-rows.ensures c.args.exprs.now.texts.catalog.now
      c.args.exprs.now.texts.statement.now c.args.exprs.now.table.now,
)) c.build_row.ensures _ c.in_ok-built.was

pub returns : goal.returns
returns c = rows-done c.loop-i.invariant _ (c.count-rows.ensures c.args.exprs.now.texts.catalog.now c.args.exprs.now.texts.statement.now
    c.args.exprs.now.table.now) (omega (arith, c.loop-i-test.false))
