-- `row::unary_operator`: by its code, or the least.
use Rattle.std.proofs.Common.{ap, ◌∙◌}
use Rattle.ast.specs.Table.{unary_at}
use Rattle.numbers.specs.Operators.{unary_operator}
use Rattle.ast.proofs.Operators.{unary-read}
use Rattle.ast.proofs.row.unary_operator.Goals as goal

pub returns : goal.returns
returns c = ap unary_operator c.unwrap_or.ensures ∙ unary-read _ _ c.try_from.ensures ∙ ap unary_at c.at.ensures
