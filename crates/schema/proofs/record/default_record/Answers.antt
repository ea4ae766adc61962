-- `default_record`: by the keyword, what the rules make of the line.
use Rattle.rules.specs.Lines.{bytes}
use Rattle.schema.specs.DefaultRecords.{default_none, default-crowded, default-wrong, default-value}
use Rattle.schema.proofs.record.default_record.Goals as goal

pub returns-then-f-ne1 : goal.returns-then-f-ne1
unfolding bytes
returns-then-f-ne1 c q l = default-crowded _ _ _ c.requires.fields (rw c.field.ensures at c.equal.ensures) q l c.if-equal.true c.if-f-ne1.true

pub returns-then-equal : goal.returns-then-equal
unfolding bytes
returns-then-equal c q l = default_none _ _ _ c.requires.fields (rw c.field.ensures at c.equal.ensures) q l c.if-equal.true c.if-f-ne1.false

pub returns-in_err-v : goal.returns-in_err-v
unfolding bytes
returns-in_err-v c q l = rw c.from_residual.ensures (default-wrong _ _ _ c.requires.fields (rw c.field.ensures at c.equal.ensures) q l c.if-equal.false c.literal_at.ensures c.in_err-v.was)

pub returns : goal.returns
unfolding bytes
returns c q l = default-value _ _ _ c.requires.fields (rw c.field.ensures at c.equal.ensures) q l c.if-equal.false c.literal_at.ensures c.in_ok-v.was
