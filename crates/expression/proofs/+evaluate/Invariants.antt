-- `expression::evaluate` meets its contract: what is left of the table falls with each call.
use Prim.Native.Nat.{◌-◌}
use lib.ListN.{length}
use Rattle.expression.proofs.+evaluate.Given as goal

abbrev pub decreases-evaluate : goal.decreases-evaluate
decreases-evaluate l = length l.exprs.now.table.now - l.r
