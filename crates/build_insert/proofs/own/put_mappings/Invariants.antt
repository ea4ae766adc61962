-- `own::put_mappings`: value by value.
use Prim.Native.Nat.{◌≤◌}
use lib.ListN.{length}
use Rattle.build_insert.specs.Own.{PutSoFar}
use Rattle.build_insert.proofs.own.put_mappings.Given as goal

abbrev pub invariant-loop-v : goal.invariant-loop-v
invariant-loop-v l = (l.v ≤ length l.columns) × PutSoFar l.columns l.v l.initial.nodes l.nodes
