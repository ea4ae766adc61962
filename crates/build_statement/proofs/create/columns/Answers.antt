-- `create::columns`: the columns so far.
use native.Mathlib.Omega.{arith}
use Rattle.plan.specs.Emits.{exit}
use Rattle.build_statement.specs.Columns.{so-far-none, in_use, still, so-far-step, so-far-stop, so-far-all}
use Rattle.build_statement.proofs.create.columns.Goals as goal

pub loop-i-init : goal.loop-i-init
loop-i-init c = so-far-none _ _ _ _ _ (omega (arith, c.requires))

pub column-requires : goal.column-requires
column-requires c = omega (
  arith,
  c.requires,
  in_use _ _ _ _ c.loop-i.invariant,
  (still _ _ _ _ c.loop-i.invariant).all,
  c.loop-i-test.true,
  c.count-count.ensures c.args.exprs.now.texts.catalog.now c.args.exprs.now.texts.statement.now c.args.exprs.now.table.now,
)

pub returns-in_err-column : goal.returns-in_err-column
returns-in_err-column c = rw (exit c.from_residual.result c.from_residual.ensures.1) (so-far-stop _ _ _ _ c.loop-i.invariant _
    c.entry_at-e.ensures _ c.new_column-new.ensures (c.count-count.ensures _ _ _) c.loop-i-test.true c.column.ensures _ c.in_err-column.was)

pub loop-i-preserved : goal.loop-i-preserved
loop-i-preserved c = so-far-step _ _ _ _ c.loop-i.invariant _
    c.entry_at-e.ensures _ c.new_column-new.ensures (c.count-count.ensures _ _ _) c.loop-i-test.true c.column.ensures c.in_ok-column.was

pub returns : goal.returns
returns c = so-far-all _ _ _ _ c.loop-i.invariant (c.count-count.ensures _ _ _) c.loop-i-test.false
