-- `read_joins`: what the rules read from here on, behind the sides that are read, is what they read in all.
use mathlib.Core.Path.{◌≡◌}
use Rattle.from.specs.Turns.{Reads}
use Rattle.from.specs.Loop.{turns_left}
use Rattle.from.proofs.read_joins.Given as goal

abbrev pub invariant-loop-x : goal.invariant-loop-x
invariant-loop-x l =
    (l.stack.joins.ghost_name ≡ l.initial.stack.joins.ghost_name) × Reads l.t (record { p = l.fn.froms.at.position; l = l.fn.froms.at.line; c = l.fn.froms.at.rows; k = l.fn.froms.tables; n = l.fn.froms.rows; cells = l.initial.cells; rows = l.initial.rows }) l.s l.stack l.cells l.rows

abbrev pub decreases-loop-x : goal.decreases-loop-x
decreases-loop-x l = turns_left l.t l.s.froms.at.position l.stack.count l.s.done
