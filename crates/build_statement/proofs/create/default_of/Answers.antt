-- `create::default_of`: a null, none, or the constant.
use mathlib.Core.Path.{sym, ◌∙◌}
use Rattle.plan.specs.Emits.{exit}
use Rattle.value.specs.Values.{value_of}
use Rattle.sections.specs.Expressions.{given-row, no-row}
use Rattle.build_statement.specs.Create.{none-given, literal-given, value-given, refused-given}
use Rattle.build_statement.proofs.create.default_of.Goals as goal

pub returns-in_default : goal.returns-in_default
unfolding value_of
returns-in_default c = rw c.then_some.ensures (none-given c.args.exprs.now.texts.catalog.now c.args.exprs.now.texts.statement.now
    c.args.exprs.now.table.now c.args.e c.args.nullable (no-row _ (sym c.in_default.is ∙ c.first_row.ensures)) _ c.of_value-null.ensures)

pub returns-in_err-constant : goal.returns-in_err-constant
returns-in_err-constant c = rw (exit c.from_residual.result c.from_residual.ensures.1) (refused-given _ _ _ c.args.e c.args.nullable
    (given-row _ (sym c.in-Some.is ∙ c.first_row.ensures)).0 _ (given-row _ (sym c.in-Some.is ∙ c.first_row.ensures)).1 _ c.build_constant_value.ensures _ c.in_err-constant.was)

pub returns-in-Literal : goal.returns-in-Literal
returns-in-Literal c = literal-given _ _ _ c.args.e c.args.nullable
    (given-row _ (sym c.in-Some.is ∙ c.first_row.ensures)).0 _ (given-row _ (sym c.in-Some.is ∙ c.first_row.ensures)).1 _ c.build_constant_value.ensures
    _ _ _ c.in_ok-constant.was c.in-Literal.is c.in_plan.ensures

pub returns-in-Value : goal.returns-in-Value
returns-in-Value c = value-given _ _ _ c.args.e c.args.nullable
    (given-row _ (sym c.in-Some.is ∙ c.first_row.ensures)).0 _ (given-row _ (sym c.in-Some.is ∙ c.first_row.ensures)).1 _ c.build_constant_value.ensures
    _ _ _ c.in_ok-constant.was c.in-Value.is c.of_value.ensures
