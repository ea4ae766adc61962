-- `clause`: no field.
use mathlib.Core.Path.{refl, ap}
use Rattle.std.specs.Prelude.{Some}
use Rattle.entries.specs.HeadRecords.{clause-yes, clause-no}
use Rattle.entries.proofs.clause.Goals as goal

pub returns-then-f-ne1 : goal.returns-then-f-ne1
returns-then-f-ne1 c = λ t p l. clause-no _ _ _ l _ _ c.if-f-ne1.true refl

pub returns : goal.returns
returns c = λ t p l. clause-yes _ _ _ l _ _ c.if-f-ne1.false c.requires (ap Some c.plain.ensures)
