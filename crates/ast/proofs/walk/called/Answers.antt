-- `walk::called`, by the kind of the record and its name.
use Rattle.std.proofs.Common.{refl, sym, ◌∙◌}
use borrow.Author.Tests.{eqb-false}
use Rattle.ast.specs.Aggregates.{named_of}
use Rattle.ast.specs.Row.{number_of}
use Rattle.ast.specs.declared.row.Kind.TheVariants as K
use Rattle.std.proofs.lemmas.Bool.{not-true}
use Rattle.ast.proofs.KindNumbers.{same-kinds, one-kind}
use Rattle.ast.specs.Called.{called-none, called-some}
use Rattle.ast.proofs.walk.called.Goals as goal

pub returns-then-ne : goal.returns-then-ne
unfolding named_of number_of
returns-then-ne c = called-none _ _ _ _ (eqb-false _ _ (sym (same-kinds _ K.Call c.kind_of.ensures refl) ∙ not-true _ (sym c.ne.ensures ∙ c.if-ne.true)))

pub returns : goal.returns
unfolding number_of
returns c = called-some _ _ _ _ _ _ _ (one-kind _ K.Call c.kind_of.ensures refl (sym c.ne.ensures ∙ c.if-ne.false))
    c.name.ensures.address c.name.ensures.length c.aggregate_named.ensures
