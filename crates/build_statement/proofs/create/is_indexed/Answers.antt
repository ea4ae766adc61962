-- `create::is_indexed`: no key has an index.
use mathlib.Core.Path.{ap, ◌∙◌}
use Rattle.std.specs.Prelude.{not}
use Rattle.build_statement.specs.Create.{index_key, index-given, index-reference}
use Rattle.build_statement.proofs.create.is_indexed.Goals.{then-column, else-column}
use Rattle.build_statement.proofs.create.is_indexed.Goals as goal

pub returns-then-column-2 : goal.returns-then-column-2
returns-then-column-2 c b q = index-given b q c.args.column c.if-not-column.true
    (elim c.if-column.branch [ then-column w ↦ rw w.if-column.true (w.value-is ∙ w.if-column.true) | else-column w ↦ rw w.if-column.false w.value-is ])
    c.if-column-2.true

pub returns-else-column-2 : goal.returns-else-column-2
returns-else-column-2 c b q = c.is_some.ensures ∙ index-reference b q c.args.column c.if-not-column.true
    (elim c.if-column.branch [ then-column w ↦ rw w.if-column.true (w.value-is ∙ w.if-column.true) | else-column w ↦ rw w.if-column.false w.value-is ])
    c.if-column-2.false

pub returns-else-not-column : goal.returns-else-not-column
returns-else-not-column c b q = ap not c.if-not-column.false ∙ index_key b q c.args.column c.if-not-column.false
