-- `name`: one name.
use mathlib.Core.Path.{refl}
use native.Mathlib.Omega.{arith}
use Rattle.entries.specs.HeadRecords.{field_at, name-no, name-yes}
use Rattle.entries.proofs.name.Goals as goal

pub returns-then-f-ne2 : goal.returns-then-f-ne2
returns-then-f-ne2 c = λ t p l. name-no _ _ _ l _ c.if-f-ne2.true refl

pub name_head-requires : goal.name_head-requires
name_head-requires c = record { place = let i = field_at _ _ _ c.requires.is 1 (omega (arith, c.if-f-ne2.false)) in (omega (arith, i.short, i.inside), omega (arith, i.short, i.inside)); few = omega arith }

pub returns : goal.returns
returns c = λ t p l. name-yes _ _ _ l _ c.if-f-ne2.false (c.name_head.ensures _ (field_at _ _ _ l 1 (omega arith)))
