-- `entry_head`: by the keyword, and by whether the fields fit.
use Rattle.entries.specs.HeadKinds.{head-missing, head-unfit, head-fit}
use Rattle.entries.proofs.entry_head.Goals as goal

pub fields_head-requires : goal.fields_head-requires
fields_head-requires c = record { text = c.args.t.now; position = c.args.at.position; is = c.requires }

pub returns-then-packed-keyword : goal.returns-then-packed-keyword
returns-then-packed-keyword c = head-missing _ _ _ _ c.requires.fields c.args.kind (rw c.field.ensures at c.packed.ensures) c.keyword.ensures _ c.if-packed-keyword.true

pub returns : goal.returns
returns c = head-fit _ _ _ _ c.requires.fields c.args.kind (rw c.field.ensures at c.packed.ensures) c.keyword.ensures _ _ c.if-packed-keyword.false (c.in-Some.ensures _ c.requires)

pub returns-in_default : goal.returns-in_default
returns-in_default c = rw c.at.ensures (head-unfit _ _ _ _ c.requires.fields c.args.kind (rw c.field.ensures at c.packed.ensures) c.keyword.ensures _ c.if-packed-keyword.false (c.in_default.ensures _ c.requires))
