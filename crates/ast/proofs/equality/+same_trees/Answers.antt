-- `equality::same_trees`: what is left of the table falls with each call; the operands left of both trees say what the whole trees say.
use native.Mathlib.Omega.{arith}
use Prim.Native.Nat.{◌+◌, ◌-◌, ◌<◌, ◌≤◌}
use mathlib.Core.Path.{◌≡◌, sym, ◌∙◌}
use Rattle.ast.specs.Operands.{operands-inside}
use Rattle.ast.proofs.EqualWalk.{same_operands, roots-differ, roots-same, equal-end, equal-more, equal-stop}
use Rattle.ast.proofs.equality.+same_trees.Goals as goal

pub returns-then-not-same_root : goal.returns-then-not-same_root
returns-then-not-same_root t c = sym (roots-differ _ _ _ _ _ (sym c.same_root.ensures ∙ c.if-not-same_root.true))

pub returns-then-operands-eq0 : goal.returns-then-operands-eq0
returns-then-operands-eq0 t c = sym (equal-end _ _ c.operands-operands.result _ _ (omega arith)) ∙ roots-same _ _ _ _ _ c.operands-operands.result (sym c.same_root.ensures ∙ c.if-not-same_root.false) c.operands-operands.ensures

pub overflow_add-p : goal.overflow_add-p
overflow_add-p t c = omega (arith, operands-inside _ _ (λ e. c.if-operands-eq0.false (c.operands-operands.ensures ∙ e)))

pub overflow_add-q : goal.overflow_add-q
overflow_add-q t c = omega (arith, operands-inside _ _ (λ e. c.if-operands-eq0.false (c.operands-operands.ensures ∙ same_operands _ _ _ _ _ (sym c.same_root.ensures ∙ c.if-not-same_root.false) ∙ e)))

pub loop-init : goal.loop-init
loop-init t c = let z : c.operands-operands.result - 0 ≡ c.operands-operands.result = omega arith in rw z (omega arith, operands-inside _ _ (λ e. c.if-operands-eq0.false (c.operands-operands.ensures ∙ e)), roots-same _ _ _ _ _ _ (sym c.same_root.ensures ∙ c.if-not-same_root.false) c.operands-operands.ensures)

pub returns-then-not-same_trees : goal.returns-then-not-same_trees
returns-then-not-same_trees t c = let h : 0 < c.operands-operands.result - c.loop.counter = omega arith in sym (equal-stop _ _ _ _ _ h (sym c.same_trees.ensures ∙ c.if-not-same_trees.true)) ∙ c.loop.invariant.2

pub loop-preserved : goal.loop-preserved
loop-preserved t c = let h : 0 < c.operands-operands.result - c.loop.counter = omega arith in let z : c.operands-operands.result - (c.loop.counter + 1) ≡ c.operands-operands.result - c.loop.counter - 1 = omega arith in rw (z, c.next-p.ensures, c.next-q.ensures) (omega arith, c.loop.invariant.1, equal-more _ _ _ _ _ h (sym c.same_trees.ensures ∙ c.if-not-same_trees.false) ∙ c.loop.invariant.2)

pub returns : goal.returns
returns t c = let h : c.operands-operands.result - c.loop.counter ≤ 0 = omega arith in sym (equal-end _ _ _ _ _ h) ∙ c.loop.invariant.2
