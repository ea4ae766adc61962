-- `walk::visit_rows`: what is left of the table falls with each call; the rows so far are those of the walk up to the
-- operands left.
use native.Mathlib.Omega.{arith}
use mathlib.Core.Path.{◌≡◌, refl, ◌∙◌}
use Prim.Native.Nat.{◌+◌, ◌-◌}
use Rattle.ast.specs.Operands.{operands-inside}
use Rattle.ast.specs.Row.{number_of}
use Rattle.ast.specs.declared.row.Kind.TheVariants as K
use Rattle.ast.proofs.KindNumbers.{same-kinds}
use Rattle.build_hidden.specs.Rows.{first_fits, visiting-begin, visiting-fits}
use Rattle.build_hidden.specs.Rows.{visiting-end, visiting-stop, visiting-more}
use Rattle.build_hidden.proofs.walk.+visit_rows.Goals as goal

pub push-requires : goal.push-requires
push-requires t c = first_fits c.requires

pub returns-then-left-eq0 : goal.returns-then-left-eq0
unfolding number_of
returns-then-left-eq0 t c = visiting-end (visiting-begin _ _ _ c.push.ensures
    (c.eq-any.ensures ∙ same-kinds _ K.Call c.kind_of.ensures refl) c.operands-left.ensures) (omega arith)

pub overflow_add-p : goal.overflow_add-p
overflow_add-p t c = omega (arith, operands-inside _ _ (λ e. c.if-left-eq0.false (c.operands-left.ensures ∙ e)))

pub loop-init : goal.loop-init
unfolding number_of
loop-init t c = (
  omega arith,
  operands-inside _ _ (λ e. c.if-left-eq0.false (c.operands-left.ensures ∙ e)),
  let z : c.operands-left.result - 0 ≡ c.operands-left.result = omega arith in
      rw z (visiting-begin _ _ _ c.push.ensures (c.eq-any.ensures ∙ same-kinds _ K.Call c.kind_of.ensures refl) c.operands-left.ensures),
)

pub visit_rows-answer-requires : goal.visit_rows-answer-requires
visit_rows-answer-requires t c = (
  omega (arith, c, c.loop.invariant.0, c.loop.invariant.1),
  visiting-fits c.loop.invariant.2 c.requires (omega (arith, c.loop-test.true)),
)

pub returns-then-answer-any : goal.returns-then-answer-any
returns-then-answer-any t c = visiting-stop c.loop.invariant.2 (omega (arith, c.loop-test.true))
    c.visit_rows-answer.ensures c.if-answer-any.true

pub loop-preserved : goal.loop-preserved
loop-preserved t c = let z : c.operands-left.result - (c.loop.counter + 1) ≡ c.operands-left.result - c.loop.counter - 1 = omega arith in rw (z, c.next-p.ensures) (
  omega arith,
  c.loop.invariant.1,
  visiting-more c.loop.invariant.2 (omega (arith, c.loop-test.true))
      c.visit_rows-answer.ensures c.if-answer-any.false,
)

pub returns : goal.returns
returns t c = visiting-end c.loop.invariant.2 (omega (arith, c.loop-test.false))
