-- `equality::same_trees`: what is left of the table falls with each call; the operands left of both trees say what the whole trees say.
use Prim.Native.Nat.{◌*◌, ◌-◌, ◌<◌}
use mathlib.Core.Path.{◌≡◌}
use lib.ListN.{length}
use Rattle.rules.specs.Equality as rules
use Rattle.ast.specs.Table.{row_size, arguments_at, tree_at}
use Rattle.ast.proofs.equality.+same_trees.Given as goal

abbrev pub decreases-same_trees : goal.decreases-same_trees
decreases-same_trees l = length l.exprs.now.table.now - l.i

abbrev pub invariant-loop : goal.invariant-loop
invariant-loop l = (l.i < l.p) × (row_size * l.i < length l.exprs.table.now) × (rules.equal_all (arguments_at (tree_at l.exprs.texts.catalog.now l.exprs.texts.statement.now l.exprs.table.now) l.exprs.table.now (l.operands - l.counter) l.p) (arguments_at (tree_at l.exprs.texts.catalog.now l.exprs.texts.statement.now l.exprs.table.now) l.exprs.table.now (l.operands - l.counter) l.q) ≡ rules.equal (tree_at l.exprs.texts.catalog.now l.exprs.texts.statement.now l.exprs.table.now l.i) (tree_at l.exprs.texts.catalog.now l.exprs.texts.statement.now l.exprs.table.now l.j))
