-- `from_record`: by the keyword and the number of fields.
use mathlib.Core.Path.{sym, ◌∙◌}
use Rattle.std.specs.Prelude.{◌+◌}
use Rattle.rules.specs.Limits.{most_bytes}
use Rattle.rules.specs.Lines.{bytes}
use Rattle.text.specs.Lines.{nth_field, field}
use Rattle.from.specs.Fields.{row_as, no_row, row_next, at_from, join-two, join-not, no-from}
use Rattle.from.proofs.record.from_record.Goals as goal

pub table_record-requires : goal.table_record-requires
table_record-requires c = record { text = c.args.t.now; position = c.args.p; is = record { short = c.requires.0; within = c.requires.1; fields = c.fields-f.ensures } }

pub returns-then-equal : goal.returns-then-equal
unfolding bytes
returns-then-equal c = λ l d k. row_next c.fields-f.ensures.next (row_as _ (at_from _ _ l d k _ c.fields-f.ensures (sym (rw c.field-word.ensures at c.equal.ensures) ∙ c.if-equal.true)) (c.table_record.ensures _ _ l d k (record { short = c.requires.0; within = c.requires.1; fields = c.fields-f.ensures })))

pub returns-then-not-equal : goal.returns-then-not-equal
unfolding bytes
returns-then-not-equal c = λ l d k. row_next c.fields-f.ensures.next (no_row (no-from _ _ l d k _ c.fields-f.ensures (sym (rw c.field-word.ensures at c.equal.ensures) ∙ c.if-equal.false) (sym (rw c.field-word.ensures at c.equal-2.ensures) ∙ c.if-not-equal.true)))

pub returns-then-f-ne3 : goal.returns-then-f-ne3
unfolding bytes
returns-then-f-ne3 c = λ l d k. row_next c.fields-f.ensures.next (no_row (join-not _ _ l d k _ c.fields-f.ensures (sym (rw c.field-word.ensures at c.equal.ensures) ∙ c.if-equal.false) (sym (rw c.field-word.ensures at c.equal-2.ensures) ∙ c.if-not-equal.false) c.if-f-ne3.true))

pub returns : goal.returns
unfolding bytes field
returns c = λ l d k. row_next c.fields-f.ensures.next (row_as _ (join-two _ _ l d k _ c.fields-f.ensures (sym (rw c.field-word.ensures at c.equal.ensures) ∙ c.if-equal.false) (sym (rw c.field-word.ensures at c.equal-2.ensures) ∙ c.if-not-equal.false) c.if-f-ne3.false) (rw (c.field.ensures, c.field-2.ensures) at (c.join_record.ensures c.args.t.now (most_bytes + (nth_field c.fields-f.result.fields 1).start) (most_bytes + (nth_field c.fields-f.result.fields 2).start))))
