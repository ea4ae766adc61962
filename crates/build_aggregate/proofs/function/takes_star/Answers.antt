-- `function::takes_star`, by the aggregate and the kind of the record.
use Rattle.std.proofs.Common.{refl, sym, ◌∙◌}
use Rattle.ast.specs.Row.{number_of}
use Rattle.ast.specs.declared.row.Kind.TheVariants as K
use Rattle.ast.proofs.KindNumbers.{same-kinds}
use Rattle.build_aggregate.specs.Functions.{starred-count, starred-other}
use Rattle.build_aggregate.proofs.function.takes_star.Goals as goal

pub returns-then-eq : goal.returns-then-eq
unfolding number_of
returns-then-eq c = λ a b. c.eq-then-eq.ensures ∙ same-kinds _ K.Star c.kind_of.ensures refl
    ∙ starred-count c.args.aggregate a b _ _ (sym c.eq.ensures ∙ c.if-eq.true)

pub returns-else-eq : goal.returns-else-eq
returns-else-eq c = λ a b. c.if-eq.false ∙ starred-other c.args.aggregate _ (sym c.eq.ensures ∙ c.if-eq.false)
