-- `roots::items`: one more for each root, from the last one on.
use Rattle.from.specs.Roots.{Counts}
use Rattle.from.proofs.roots.items.Given as goal

abbrev pub invariant-loop-end : goal.invariant-loop-end
invariant-loop-end l = Counts l.rows l.n l.end l.c

abbrev pub decreases-loop-end : goal.decreases-loop-end
decreases-loop-end l = l.end
