-- `expression::evaluate_constant` meets its contract.
use Rattle.std.proofs.Common.{refl, sym, ◌∙◌}
use borrow.Author.Tests.{eqb-true, eqb-false}
use Rattle.ast.specs.Row.{number_of}
use Rattle.ast.specs.declared.row.Kind.TheVariants as K
use Rattle.ast.proofs.KindNumbers.{same-kinds}
use Rattle.expression.specs.Answers.{answered, constant_value}
use Rattle.expression.proofs.Rows.{bare, worked-out, constant-mapped}
use Rattle.expression.proofs.evaluate_constant.Goals as goal

pub returns-then-eq : goal.returns-then-eq
unfolding answered constant_value number_of
returns-then-eq c = bare _ _ _ _ _
    (eqb-true _ _ (sym (same-kinds _ K.Literal c.kind_of.ensures refl) ∙ sym c.eq.ensures ∙ c.if-eq.true)) c.literal.ensures

pub returns : goal.returns
unfolding number_of
returns c = constant-mapped _ _ _ _ c.map.ensures.cases ∙ worked-out _ _ _ _ _
    (eqb-false _ _ (sym (same-kinds _ K.Literal c.kind_of.ensures refl) ∙ sym c.eq.ensures ∙ c.if-eq.false)) c.evaluate.ensures
