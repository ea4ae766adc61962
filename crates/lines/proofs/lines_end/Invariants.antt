-- `lines_end`: the lines left, on from p, are n lines on from the start.
use Prim.Native.Nat.{◌-◌}
use mathlib.Core.Path.{◌≡◌}
use Rattle.lines.specs.Spans.{lines_end}
use Rattle.lines.proofs.lines_end.Given as goal

abbrev pub invariant-loop : goal.invariant-loop
invariant-loop l = lines_end l.text l.p (l.n - l.counter) ≡ lines_end l.text l.at l.n
