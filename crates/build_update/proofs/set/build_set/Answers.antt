-- `set::build_set`: the default, or the expression.
use mathlib.Core.Path.{sym, ◌∙◌}
use Rattle.sections.specs.Expressions.{given-row, no-row}
use Rattle.build_update.specs.Sets.{values-none, values-some, value_room}
use Rattle.build_update.proofs.set.build_set.Goals as goal

pub returns-in_default : goal.returns-in_default
returns-in_default c = values-none (no-row _ (sym c.in_default.is ∙ c.first_row.ensures)) c.build_default.ensures

pub build_expression-requires : goal.build_expression-requires
build_expression-requires c = let g = given-row _ (sym c.in-Some.is ∙ c.first_row.ensures) in value_room _ _ _ c.args.e c.requires _ g.0 g.1

pub returns : goal.returns
returns c = let g = given-row _ (sym c.in-Some.is ∙ c.first_row.ensures) in values-some _ g.0 g.1 c.build_expression.ensures
