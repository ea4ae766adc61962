-- `operators::is`: by the kind of the literal.
use Rattle.std.proofs.Common.{ap, ◌∙◌}
use Rattle.rules.specs.Evaluate.{worked_at}
use Rattle.numbers.specs.Literals.{literal_of}
use Rattle.expression.proofs.operators.is.Goals as goal

pub returns-in-Float : goal.returns-in-Float
unfolding literal_of
returns-in-Float c = λ t q. rw c.in-Float.is (c.worked_at.ensures t q ∙ ap (worked_at _) (c.is_nan.ensures _ t q))
