-- `read_tables`: the tables read, and the rest by the rules from here, are what the rules read in all.
use Prim.Native.Nat.{◌-◌}
use mathlib.Core.Path.{◌≡◌}
use lib.ListN.{length}
use Rattle.schema.specs.TableRuns.{TableLoop}
use Rattle.schema.proofs.read.read_tables.Given as goal

abbrev pub invariant-loop-at : goal.invariant-loop-at
invariant-loop-at l = (length l.tables ≡ length l.initial.tables) × TableLoop l.catalog l.at.position l.at.line l.n l.first l.tables

abbrev pub decreases-loop-at : goal.decreases-loop-at
decreases-loop-at l = length l.catalog - l.at.position
