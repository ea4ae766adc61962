-- `first_record`: by the keyword and the number of fields.
use Rattle.std.specs.Prelude.{◌+◌}
use native.Mathlib.Omega.{arith}
use Rattle.rules.specs.Limits.{most_bytes}
use mathlib.Core.Path.{sym, ◌∙◌}
use Rattle.text.specs.Lines.{nth_field, field}
use Rattle.statement.specs.FirstRecord.{first_said, first-inside, first-none, first-plain, first-plain-not, first-drop, first-drop-not, first-named, first-named-not}
use Rattle.statement.proofs.first.first_record.Goals as goal

pub returns-in_err-kind : goal.returns-in_err-kind
unfolding first_said
returns-in_err-kind c b = rw c.from_residual.ensures (sym (first-none _ _ c.requires.fields c.field.ensures c.in_err-kind.ensures))

pub returns-then-n-ne1 : goal.returns-then-n-ne1
unfolding first_said
returns-then-n-ne1 c b = sym (first-plain-not _ _ c.requires.fields c.field.ensures _ c.in_ok-kind.ensures c.in-Select.is c.if-n-ne1.true)

pub returns-else-n-ne1 : goal.returns-else-n-ne1
returns-else-n-ne1 c b = first-plain _ _ c.requires.fields c.field.ensures _ c.in_ok-kind.ensures c.in-Select.is c.if-n-ne1.false b

pub returns-then-n-ne3 : goal.returns-then-n-ne3
unfolding first_said
returns-then-n-ne3 c b = sym (first-drop-not _ _ c.requires.fields c.field.ensures _ c.in_ok-kind.ensures c.in-Drop.is c.if-n-ne3.true)

pub dropped-requires : goal.dropped-requires
dropped-requires c = let i = first-inside _ _ c.requires.fields 1 c.requires.short (omega (arith, c.if-n-ne3.false)) in (omega (arith, i.short, i.inside), omega (arith, i.short, i.inside))

pub returns-else-n-ne3 : goal.returns-else-n-ne3
unfolding field
returns-else-n-ne3 c b = (rw c.field-in-Drop.ensures at (c.dropped.ensures b _ (most_bytes + (nth_field c.args.f.fields 2).start) (first-inside _ _ c.requires.fields 1 c.requires.short (omega (arith, c.if-n-ne3.false))))) ∙ sym (first-drop _ _ c.requires.fields c.field.ensures _ c.in_ok-kind.ensures c.in-Drop.is c.if-n-ne3.false)

pub returns-then-n-ne2 : goal.returns-then-n-ne2
unfolding first_said
returns-then-n-ne2 c b = sym (first-named-not _ _ c.requires.fields c.field.ensures _ c.in_ok-kind.ensures c.in-Delete.is c.if-n-ne2.true)

pub named-requires : goal.named-requires
named-requires c = let i = first-inside _ _ c.requires.fields 1 c.requires.short (omega (arith, c.if-n-ne2.false)) in record { place = (omega (arith, i.short, i.inside), omega (arith, i.short, i.inside)); one_name = c.in-Delete.is }

pub returns-else-n-ne2 : goal.returns-else-n-ne2
returns-else-n-ne2 c b = c.named.ensures b _ (first-inside _ _ c.requires.fields 1 c.requires.short (omega (arith, c.if-n-ne2.false))) ∙ sym (first-named _ _ c.requires.fields c.field.ensures _ c.in_ok-kind.ensures c.if-n-ne2.false)
