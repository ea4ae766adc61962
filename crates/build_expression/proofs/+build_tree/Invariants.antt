-- `build_tree` meets its contract: what is left of the table falls with each call.
use Prim.Native.Nat.{◌-◌}
use lib.ListN.{length}
use Rattle.build_expression.proofs.+build_tree.Given as goal

abbrev pub decreases-build_tree : goal.decreases-build_tree
decreases-build_tree l = length l.exprs.now.table.now - l.r
