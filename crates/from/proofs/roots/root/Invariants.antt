-- `roots::root`: from the last root on, as many as stand behind the one.
use Prim.Native.Nat.{◌+◌, ◌-◌}
use Rattle.from.specs.Roots.{Finds}
use Rattle.from.proofs.roots.root.Given as goal

abbrev pub invariant-loop : goal.invariant-loop
invariant-loop l = Finds l.rows l.n l.k l.end (l.count + l.k + 1 - l.counter)
