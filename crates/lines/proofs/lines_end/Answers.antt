-- `lines_end`: the lines left, on from p, are n lines on from the start.
use native.Mathlib.Omega.{arith}
use mathlib.Core.Path.{◌≡◌, sym, ◌∙◌}
use Prim.Native.Nat.{◌-◌, ◌+◌}
use Rattle.lines.specs.Spans.{end_stays, end-next, end_none}
use Rattle.lines.proofs.lines_end.Goals as goal

pub returns-then-text-p : goal.returns-then-text-p
returns-then-text-p c = sym (end_stays _ _ _ c.if-text-p.true) ∙ c.loop.invariant

pub loop-preserved : goal.loop-preserved
loop-preserved c = let e : c.args.n - (c.loop.counter + 1) ≡ c.args.n - c.loop.counter - 1 = omega arith in rw e (end-next _ _ _ _ (omega arith) c.line_end-p.ensures ∙ c.loop.invariant)

pub returns : goal.returns
returns c = sym (end_none _ _ _ (omega arith)) ∙ c.loop.invariant
