-- `from_stands`: by the two keywords.
use mathlib.Core.Path.{sym, ◌∙◌}
use Rattle.rules.specs.Lines.{bytes}
use Rattle.from.specs.Fields.{is-first, is-second}
use Rattle.from.proofs.record.from_stands.Goals as goal

pub returns-then-equal : goal.returns-then-equal
unfolding bytes
returns-then-equal c = λ l d k. c.if-equal.true ∙ is-first _ _ l d k _ c.fields-f.ensures _ _ (sym (rw c.field-word.ensures at c.equal.ensures) ∙ c.if-equal.true)

pub returns-else-equal : goal.returns-else-equal
unfolding bytes
returns-else-equal c = λ l d k. (rw c.field-word.ensures at c.equal-else-equal.ensures) ∙ is-second _ _ l d k _ c.fields-f.ensures _ _ (sym (rw c.field-word.ensures at c.equal.ensures) ∙ c.if-equal.false)
