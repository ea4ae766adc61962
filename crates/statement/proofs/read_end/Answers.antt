-- `read_end`: a line `end` with no other field, and nothing behind it.
use Rattle.rules.specs.Lines.{bytes}
use Rattle.statement.specs.EndRecord.{end-missing, end-fields, end_more, end-done}
use Rattle.statement.proofs.read_end.Goals as goal

pub returns-then-not-equal : goal.returns-then-not-equal
unfolding bytes
returns-then-not-equal c = λ s k. rw c.at.ensures (end-missing _ s _ _ _ k c.requires _ c.fields-f.ensures _ (rw c.field.ensures at c.equal.ensures) c.if-not-equal.true)

pub returns-then-f-ne1 : goal.returns-then-f-ne1
unfolding bytes
returns-then-f-ne1 c = λ s k. rw c.at-then-f-ne1.ensures (end-fields _ s _ _ _ k c.requires _ c.fields-f.ensures _ (rw c.field.ensures at c.equal.ensures) c.if-not-equal.false c.if-f-ne1.true)

pub returns-then-f-t : goal.returns-then-f-t
unfolding bytes
returns-then-f-t c = λ s k. rw c.at-then-f-t.ensures (end_more _ s _ _ _ k c.requires _ c.fields-f.ensures _ (rw c.field.ensures at c.equal.ensures) c.if-not-equal.false c.if-f-ne1.false c.if-f-t.true)

pub returns : goal.returns
unfolding bytes
returns c = λ s k. rw c.behind.ensures (end-done _ s _ _ _ k c.requires _ c.fields-f.ensures _ (rw c.field.ensures at c.equal.ensures) c.if-not-equal.false c.if-f-ne1.false c.if-f-t.false)
