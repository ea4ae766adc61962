-- `walk::walk_free`: what is left of the table falls with each call; the operands left say what the whole tree says.
use Prim.Native.Nat.{◌*◌, ◌-◌, ◌<◌}
use mathlib.Core.Path.{◌≡◌}
use lib.ListN.{length}
use Rattle.rules.specs.BuildAggregate.{walk_free}
use Rattle.ast.specs.Table.{row_size, arguments_at, tree_at}
use Rattle.ast.proofs.Walks.{walked}
use Rattle.ast.proofs.walk.+walk_free.Given as goal

abbrev pub decreases-walk_free : goal.decreases-walk_free
decreases-walk_free l = length l.exprs.now.table.now - l.r

abbrev pub invariant-loop : goal.invariant-loop
invariant-loop l = (l.r < l.p) × (row_size * l.r < length l.exprs.table.now) × (walked l.any (arguments_at (tree_at l.exprs.texts.catalog.now l.exprs.texts.statement.now l.exprs.table.now) l.exprs.table.now (l.operands - l.counter) l.p) ≡ walk_free (tree_at l.exprs.texts.catalog.now l.exprs.texts.statement.now l.exprs.table.now l.r))
