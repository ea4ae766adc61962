-- `leaves::unmatched`, by the record's kind.
use mathlib.Core.Path.{refl, sym, ap, ◌∙◌}
use Rattle.ast.specs.Row.{number_of}
use Rattle.ast.specs.Table.{tree_at}
use Rattle.scope.specs.Lookup.{qualifier_of}
use Rattle.plan.specs.Emits.{exit}
use Rattle.build_expression.specs.Leaves.{begins-star, begins-column, begins-whole, begins-literal, begins-unary, begins-is, begins-binary}
use Rattle.build_expression.proofs.leaves.unmatched.Goals as goal

pub qualified-requires : goal.qualified-requires
unfolding number_of
qualified-requires c = record {
  room = c.requires.room;
  qualified = sym c.kind_of-kind.ensures ∙ ap number_of c.in-Qualified.is;
  unmatched = c.requires.unmatched;
}

pub call-requires : goal.call-requires
unfolding number_of
call-requires c = sym c.kind_of-kind.ensures ∙ ap number_of c.in-Call.is

pub returns-in-Star : goal.returns-in-Star
returns-in-Star c = rw c.at.ensures (begins-star _ _ _ _ _ _ _ _ _ _ c.requires.unmatched _ c.kind_of-kind.ensures _
    c.in-Star.is c.line.ensures refl)

pub returns-in_ok-column-in-Column : goal.returns-in_ok-column-in-Column
unfolding qualifier_of
returns-in_ok-column-in-Column c = rw c.in_ok-column-in-Column.was at (begins-column _ _ _ _ _ _ _ _ _ _ c.requires.unmatched _ c.kind_of-kind.ensures _
    c.in-Column.is (λ h. c.column.ensures (tree_at _ _ _) h))

pub returns-in_err-column-in-Column : goal.returns-in_err-column-in-Column
unfolding qualifier_of
returns-in_err-column-in-Column c = rw (exit c.from_residual.result c.from_residual.ensures.1)
    (rw c.in_err-column-in-Column.was at (begins-column _ _ _ _ _ _ _ _ _ _ c.requires.unmatched _ c.kind_of-kind.ensures _
    c.in-Column.is (λ h. c.column.ensures (tree_at _ _ _) h)))

pub returns-in_ok-qualified-in-Qualified : goal.returns-in_ok-qualified-in-Qualified
returns-in_ok-qualified-in-Qualified c = rw c.in_ok-qualified-in-Qualified.was at (begins-whole _ _ _ _ _ _ _ _ _ _ _ c.qualified.ensures)

pub returns-in_err-qualified-in-Qualified : goal.returns-in_err-qualified-in-Qualified
returns-in_err-qualified-in-Qualified c = rw (exit c.from_residual-in_err-qualified-in-Qualified.result c.from_residual-in_err-qualified-in-Qualified.ensures.1)
    (rw c.in_err-qualified-in-Qualified.was at (begins-whole _ _ _ _ _ _ _ _ _ _ _ c.qualified.ensures))

pub returns-in-Unary : goal.returns-in-Unary
returns-in-Unary c = begins-unary _ _ _ _ _ _ _ _ _ _ c.requires.unmatched _ c.kind_of-kind.ensures _
    c.in-Unary.is c.unary_operator-operator.ensures refl

pub returns-in-Binary : goal.returns-in-Binary
returns-in-Binary c = begins-binary _ _ _ _ _ _ _ _ _ _ c.requires.unmatched _ c.kind_of-kind.ensures
    c.in-Binary.is refl

pub returns-in-Is : goal.returns-in-Is
returns-in-Is c = begins-is _ _ _ _ _ _ _ _ _ _ c.requires.unmatched _ c.kind_of-kind.ensures
    c.in-Is.is refl

pub returns-in-Literal : goal.returns-in-Literal
returns-in-Literal c = begins-literal _ _ _ _ _ _ _ _ _ _ c.requires.unmatched _ c.kind_of-kind.ensures _
    c.in-Literal.is c.literal.ensures
