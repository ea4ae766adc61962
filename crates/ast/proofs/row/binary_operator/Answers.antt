-- `row::binary_operator`: by its code, or the least.
use Rattle.std.proofs.Common.{ap, ◌∙◌}
use Rattle.ast.specs.Table.{binary_at}
use Rattle.numbers.specs.Operators.{binary_operator}
use Rattle.ast.proofs.Operators.{binary-read}
use Rattle.ast.proofs.row.binary_operator.Goals as goal

pub returns : goal.returns
returns c = ap binary_operator c.unwrap_or.ensures ∙ binary-read _ _ c.try_from.ensures ∙ ap binary_at c.at.ensures
