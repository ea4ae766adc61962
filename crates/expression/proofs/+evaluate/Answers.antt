-- `expression::evaluate` meets its contract: what is left of the table falls with each call.
use Rattle.std.proofs.Common.{refl, sym, ◌∙◌}
use Rattle.std.proofs.lemmas.Result.{err_from_is_err_and}
use native.Mathlib.Omega.{arith}
use borrow.Author.Tests.{eqb-false}
use Rattle.ast.specs.Operands.{operands-inside}
use Rattle.ast.specs.Row.{number_of}
use Rattle.ast.specs.declared.row.Kind.TheVariants as K
use Rattle.std.proofs.lemmas.Bool.{not-true}
use Rattle.ast.proofs.KindNumbers.{same-kinds, one-kind}
use Rattle.expression.proofs.Rows.{by_row, left, right, left-refused, right-refused, taken}
use Rattle.expression.proofs.+evaluate.Goals as goal

pub returns-then-operands-eq0 : goal.returns-then-operands-eq0
returns-then-operands-eq0 t c = by_row _ _ _ _ _ (c.leaf.ensures _ _ _)

pub overflow_add-left : goal.overflow_add-left
overflow_add-left t c = omega (arith, operands-inside _ _ (λ e. c.if-operands-eq0.false (c.operands.ensures ∙ e)))

pub evaluate-requires : goal.evaluate-requires
evaluate-requires t c = (omega (arith, operands-inside _ _ (λ e. c.if-operands-eq0.false (c.operands.ensures ∙ e))), tt)

pub returns-in_err-a : goal.returns-in_err-a
returns-in_err-a t c = let p = err_from_is_err_and c.from_residual.result c.from_residual.ensures.1 in
    rw (p.1, p.2) (left-refused _ _ _ _ _ _ refl (λ e. c.if-operands-eq0.false (c.operands.ensures ∙ e)) (taken _ _ _ _ _ c.in_err-a.was c.evaluate.ensures))

pub first_operand-requires-clause-not_binary : goal.first_operand-requires-clause-not_binary
unfolding number_of
first_operand-requires-clause-not_binary t c = eqb-false _ _ (sym (same-kinds _ K.Binary c.kind_of.ensures refl) ∙ not-true _ (sym c.ne.ensures ∙ c.if-ne.true))

pub returns-then-ne : goal.returns-then-ne
returns-then-ne t c =
    by_row _ _ _ _ _ (c.first_operand.ensures _ _ _ (taken _ _ _ _ _ c.in_ok-a.was (left _ _ _ _ _ c.evaluate.ensures)))

pub evaluate-requires-2 : goal.evaluate-requires-2
evaluate-requires-2 t c = (omega (arith, c.next-right.ensures, operands-inside _ _ (λ e. c.if-operands-eq0.false (c.operands.ensures ∙ e))), tt)

pub returns-in_err-b : goal.returns-in_err-b
unfolding number_of
returns-in_err-b t c = let p = err_from_is_err_and c.from_residual-in_err-b.result c.from_residual-in_err-b.ensures.1 in
    rw (p.1, p.2) (right-refused _ _ _ _ _ _ refl _ (one-kind _ K.Binary c.kind_of.ensures refl (sym c.ne.ensures ∙ c.if-ne.false))
    (taken _ _ _ _ _ c.in_ok-a.was (left _ _ _ _ _ c.evaluate.ensures))
    (taken _ _ _ _ _ c.in_err-b.was (right _ _ _ _ _ _ c.next-right.ensures c.evaluate-2.ensures)))

pub both_operands-requires : goal.both_operands-requires
unfolding number_of
both_operands-requires t c = one-kind _ K.Binary c.kind_of.ensures refl (sym c.ne.ensures ∙ c.if-ne.false)

pub returns : goal.returns
returns t c =
    by_row _ _ _ _ _ (c.both_operands.ensures _
    (taken _ _ _ _ _ c.in_ok-a.was (left _ _ _ _ _ c.evaluate.ensures))
    (taken _ _ _ _ _ c.in_ok-b.was (right _ _ _ _ _ _ c.next-right.ensures c.evaluate-2.ensures)))
