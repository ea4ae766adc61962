-- `read_columns`: the columns read, and the rest by the rules from here, are what the rules read in all.
use Prim.Native.Nat.{◌-◌}
use mathlib.Core.Path.{◌≡◌}
use lib.ListN.{length}
use Rattle.schema.specs.ColumnRuns.{ColumnLoop}
use Rattle.schema.proofs.read.read_columns.Given as goal

abbrev pub invariant-loop-next : goal.invariant-loop-next
invariant-loop-next l = (length l.tables ≡ length l.initial.tables) × ColumnLoop l.catalog l.fn.at.position l.fn.at.line l.first l.initial.tables l.run.at.position l.run.at.line l.run.count l.tables

abbrev pub decreases-loop-next : goal.decreases-loop-next
decreases-loop-next l = length l.catalog - l.run.at.position
