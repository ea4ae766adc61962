-- `read_froms`: the trees so far, and those that the rules read from here on, are what they read in all.
use Prim.Native.Nat.{◌-◌}
use lib.ListN.{length}
use Rattle.from.specs.Runs.{FromsLoop}
use Rattle.from.proofs.read_froms.Given as goal

abbrev pub invariant-loop-cells : goal.invariant-loop-cells
invariant-loop-cells l = FromsLoop l.t l.fn.at.position l.fn.at.line l.fn.at.rows l.initial.cells l.froms.at.position l.froms.at.line l.froms.at.rows l.froms.tables l.froms.rows l.cells l.rows

abbrev pub decreases-loop-cells : goal.decreases-loop-cells
decreases-loop-cells l = length l.t - l.froms.at.position
