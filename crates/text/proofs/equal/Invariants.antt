-- `equal`: the bytes from here on are the same.
use Rattle.text.specs.Order.{Alike}
use Rattle.text.proofs.equal.Given as goal

abbrev pub invariant-loop-i : goal.invariant-loop-i
invariant-loop-i l = Alike l.x l.y l.i
