-- `orders::put_keys`: the cells and parts of the keys so far, and the keys that are left.
use Rattle.build_clauses.specs.Keys.{putting-begin, keys_below, keys-past, room-here, space-here, putting-refused, putting-more, putting-end}
use Rattle.plan.specs.Emits.{exit}
use native.Mathlib.Omega.{arith}
use Rattle.build_clauses.proofs.orders.put_keys.Goals as goal

pub loop-i-init : goal.loop-i-init
loop-i-init c = putting-begin _ _ _ c.requires.room c.requires.nodes_room

pub put_key-requires : goal.put_key-requires
put_key-requires c = let l = keys_below c.args.exprs.now.texts.catalog.now c.args.exprs.now.texts.statement.now c.args.exprs.now.table.now c.args.parts.now (c.count-keys.ensures c.args.exprs.now.texts.catalog.now c.args.exprs.now.texts.statement.now c.args.exprs.now.table.now) c.loop-i-test.true in record { room = room-here c.loop-i.invariant (omega arith) l _ c.entry_at-e.ensures _ c.descends.ensures; nodes_room = space-here c.loop-i.invariant (omega arith) l _ c.entry_at-e.ensures _ c.descends.ensures }

pub returns-in_err-p : goal.returns-in_err-p
returns-in_err-p c = rw (exit c.from_residual.result c.from_residual.ensures.1) (putting-refused c.loop-i.invariant (omega arith) (keys_below c.args.exprs.now.texts.catalog.now c.args.exprs.now.texts.statement.now c.args.exprs.now.table.now c.args.parts.now (c.count-keys.ensures c.args.exprs.now.texts.catalog.now c.args.exprs.now.texts.statement.now c.args.exprs.now.table.now) c.loop-i-test.true) _ c.entry_at-e.ensures _ c.descends.ensures c.put_key.ensures _ c.in_err-p.was)

pub loop-i-preserved : goal.loop-i-preserved
loop-i-preserved c = putting-more c.loop-i.invariant (omega arith) (keys_below c.args.exprs.now.texts.catalog.now c.args.exprs.now.texts.statement.now c.args.exprs.now.table.now c.args.parts.now (c.count-keys.ensures c.args.exprs.now.texts.catalog.now c.args.exprs.now.texts.statement.now c.args.exprs.now.table.now) c.loop-i-test.true) _ c.entry_at-e.ensures _ c.descends.ensures c.put_key.ensures _ c.in_ok-p.was

pub returns : goal.returns
returns c = putting-end c.loop-i.invariant (keys-past c.args.exprs.now.texts.catalog.now c.args.exprs.now.texts.statement.now c.args.exprs.now.table.now c.args.parts.now (c.count-keys.ensures c.args.exprs.now.texts.catalog.now c.args.exprs.now.texts.statement.now c.args.exprs.now.table.now) c.loop-i-test.false)
