-- `reading::read_expressions`: expressions at most 32 deep.
use Rattle.rules.specs.ReadExpression.{expression}
use Rattle.read_expression.proofs.reading.read_expressions.Goals as goal

pub returns : goal.returns
unfolding expression
returns c = c.read_times.ensures
