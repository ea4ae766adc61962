-- `item`: an alias or none.
use mathlib.Core.Path.{refl, ap}
use Rattle.std.specs.Prelude.{Some}
use native.Mathlib.Omega.{arith}
use Rattle.entries.specs.HeadRecords.{field_at, item-plain, item-named, item-no}
use Rattle.entries.proofs.item.Goals as goal

pub returns-then-f-eq1 : goal.returns-then-f-eq1
returns-then-f-eq1 c = λ t p l. item-plain _ _ _ l _ c.if-f-eq1.true (ap Some c.plain.ensures)

pub returns-then-f-ne2 : goal.returns-then-f-ne2
returns-then-f-ne2 c = λ t p l. item-no _ _ _ l _ c.if-f-eq1.false c.if-f-ne2.true refl

pub name_head-requires : goal.name_head-requires
name_head-requires c = record { place = let i = field_at _ _ _ c.requires.is 1 (omega (arith, c.if-f-ne2.false)) in (omega (arith, i.short, i.inside), omega (arith, i.short, i.inside)); few = omega arith }

pub returns : goal.returns
returns c = λ t p l. item-named _ _ _ l _ c.if-f-ne2.false (c.name_head.ensures _ (field_at _ _ _ l 1 (omega arith)))
