-- `column_record`: field by field, what the rules make of the line.
use native.Mathlib.Omega.{arith}
use mathlib.Core.Path.{sym, ◌∙◌}
use Rattle.rules.specs.Lines.{bytes}
use Rattle.schema.specs.Records.{field-most}
use Rattle.schema.specs.ColumnRecords.{column-missing, column-count, column-name, column-type, column-null, column-right}
use Rattle.schema.proofs.record.column_record.Goals as goal

pub returns-then-not-equal : goal.returns-then-not-equal
unfolding bytes
returns-then-not-equal c = column-missing _ _ _ _ c.fields-f.ensures (rw c.field.ensures at c.equal.ensures) c.if-not-equal.true

pub returns-then-f-ne4 : goal.returns-then-f-ne4
unfolding bytes
returns-then-f-ne4 c = rw c.at.ensures (column-count _ _ _ _ c.fields-f.ensures (rw c.field.ensures at c.equal.ensures) c.if-not-equal.false c.if-f-ne4.true)

pub returns-then-not-is_name : goal.returns-then-not-is_name
unfolding bytes
returns-then-not-is_name c = rw c.at-then-not-is_name.ensures (column-name _ _ _ _ c.fields-f.ensures (rw c.field.ensures at c.equal.ensures) c.if-not-equal.false c.if-f-ne4.false (sym c.is_name.ensures ∙ c.if-not-is_name.true))

pub returns-in_default : goal.returns-in_default
unfolding bytes
returns-in_default c = rw c.at-in_default.ensures (column-type _ _ _ _ c.fields-f.ensures (rw c.field.ensures at c.equal.ensures) c.if-not-equal.false c.if-f-ne4.false (sym c.is_name.ensures ∙ c.if-not-is_name.false) (rw c.field-2.ensures at c.in_default.ensures))

pub returns-in_default-may_be_null : goal.returns-in_default-may_be_null
unfolding bytes
returns-in_default-may_be_null c = rw c.at-in_default-may_be_null.ensures (column-null _ _ _ _ c.fields-f.ensures (rw c.field.ensures at c.equal.ensures) c.if-not-equal.false c.if-f-ne4.false (sym c.is_name.ensures ∙ c.if-not-is_name.false) _ (rw c.field-2.ensures at c.in-Some.ensures) (rw c.field-3.ensures at c.in_default-may_be_null.ensures))

pub overflow_cast-result : goal.overflow_cast-result
overflow_cast-result c = record { fits = omega (arith, field-most _ _ _ c.fields-f.ensures c.requires 1 (omega (arith, c.if-f-ne4.false))) }

pub overflow_cast-result-2 : goal.overflow_cast-result-2
overflow_cast-result-2 c = record { fits = omega (arith, field-most _ _ _ c.fields-f.ensures c.requires 1 (omega (arith, c.if-f-ne4.false))) }

pub returns : goal.returns
unfolding bytes
returns c = column-right _ _ _ _ c.fields-f.ensures (rw c.field.ensures at c.equal.ensures) c.if-not-equal.false c.if-f-ne4.false (sym c.is_name.ensures ∙ c.if-not-is_name.false) _ (rw c.field-2.ensures at c.in-Some.ensures) _ c.requires (rw c.field-3.ensures at c.in-Some-may_be_null.ensures)
