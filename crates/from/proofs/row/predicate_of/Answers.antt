-- `row::predicate_of`: none, or the row before the number.
use mathlib.Core.Path.{ap, ◌∙◌}
use Rattle.from.specs.Access.{predicate_row, predicate-before}
use Rattle.from.proofs.row.predicate_of.Goals as goal

pub returns : goal.returns
returns c = predicate-before _ _ c.of_number.ensures ∙ ap predicate_row c.at.ensures
