-- `table_record`: field by field, what the rules make of the line.
use native.Mathlib.Omega.{arith}
use mathlib.Core.Path.{sym, ◌∙◌}
use Rattle.rules.specs.Lines.{bytes}
use Rattle.schema.specs.Records.{field-most}
use Rattle.text.specs.Numbers.{count_small}
use Rattle.schema.specs.TableRecords.{table-missing, table-count, table-name, table-key, table_taken, table-right, taken-is}
use Rattle.schema.proofs.record.table_record.Goals as goal

pub returns-then-not-equal : goal.returns-then-not-equal
unfolding bytes
returns-then-not-equal c = table-missing _ _ _ _ _ c.fields-f.ensures (rw c.field.ensures at c.equal.ensures) c.if-not-equal.true

pub returns-then-f-ne3 : goal.returns-then-f-ne3
unfolding bytes
returns-then-f-ne3 c = table-count _ _ _ _ _ c.fields-f.ensures (rw c.field.ensures at c.equal.ensures) c.if-not-equal.false c.if-f-ne3.true

pub returns-then-not-is_name : goal.returns-then-not-is_name
unfolding bytes
returns-then-not-is_name c = table-name _ _ _ _ _ c.fields-f.ensures (rw c.field.ensures at c.equal.ensures) c.if-not-equal.false c.if-f-ne3.false (sym c.is_name.ensures ∙ c.if-not-is_name.true)

pub returns-in_err-k : goal.returns-in_err-k
unfolding bytes
returns-in_err-k c = rw c.from_residual.ensures (table-key _ _ _ _ _ c.fields-f.ensures (rw c.field.ensures at c.equal.ensures) c.if-not-equal.false c.if-f-ne3.false (sym c.is_name.ensures ∙ c.if-not-is_name.false) (λ o. rw c.field-2.ensures at (c.in_err-k.ensures o)))

pub overflow_cast-name : goal.overflow_cast-name
overflow_cast-name c = record { fits = omega (arith, field-most _ _ _ c.fields-f.ensures c.requires 1 (omega (arith, c.if-f-ne3.false))) }

pub overflow_cast-name-2 : goal.overflow_cast-name-2
overflow_cast-name-2 c = record { fits = omega (arith, field-most _ _ _ c.fields-f.ensures c.requires 1 (omega (arith, c.if-f-ne3.false))) }

pub returns-then-is_some : goal.returns-then-is_some
unfolding bytes
returns-then-is_some c = table_taken _ _ _ _ _ c.fields-f.ensures (rw c.field.ensures at c.equal.ensures) c.if-not-equal.false c.if-f-ne3.false (sym c.is_name.ensures ∙ c.if-not-is_name.false) (λ o. rw c.field-2.ensures at (c.in_ok-k.ensures o)) c.requires (c.is_some.ensures ∙ taken-is _ _ _ _ _ c.table_among.ensures) c.if-is_some.true

pub overflow_cast-result : goal.overflow_cast-result
overflow_cast-result c = record { fits = omega (arith, count_small _ _ (c.in_ok-k.ensures 0)) }

pub returns : goal.returns
unfolding bytes
returns c = table-right _ _ _ _ _ c.fields-f.ensures (rw c.field.ensures at c.equal.ensures) c.if-not-equal.false c.if-f-ne3.false (sym c.is_name.ensures ∙ c.if-not-is_name.false) (λ o. rw c.field-2.ensures at (c.in_ok-k.ensures o)) c.requires (c.is_some.ensures ∙ taken-is _ _ _ _ _ c.table_among.ensures) c.if-is_some.false
