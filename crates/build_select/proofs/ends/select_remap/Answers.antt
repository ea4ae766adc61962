-- `ends::select_remap`: hidden columns are dropped, and the area is that of the plan.
use Rattle.std.proofs.Math.Path.{refl}
use Rattle.build_select.specs.Ends.{remap-follows, remapped-room, remapped-plans}
use Rattle.build_select.proofs.ends.select_remap.Goals as goal

pub build_remap-remapped-requires : goal.build_remap-remapped-requires
build_remap-remapped-requires c = record { hidden_le_width = c.requires.scoped.hidden; follows = remap-follows c.requires }

pub finish-requires : goal.finish-requires
finish-requires c = remapped-room c.requires (c.build_remap-remapped.ensures.is _ c.requires.scoped.valid refl refl _ _ _ _)

pub returns : goal.returns
returns c = λ h. remapped-plans h (c.build_remap-remapped.ensures.is _ h.scoped.valid refl refl _ _ _ _) {area' = c.finish.new.area} c.finish.auto.area c.finish.ensures
