-- `remaps::push_remap`: the head, both runs of targets, the length.
use Rattle.build_from.specs.Remaps.{rising-end, remap-ended}
use Rattle.plan.specs.Room.{remap-in-use}
use Rattle.plan.specs.Records.{opened-remap}
use native.Mathlib.Omega.{arith}
use Rattle.build_from.proofs.remaps.push_remap.Goals as goal

pub push_rising-requires-2-clause-room : goal.push_rising-requires-2-clause-room
push_rising-requires-2-clause-room c = let e = remap-in-use _ (opened-remap c.begin.ensures) in
    let f = rising-end _ _ c.push_rising.ensures in
    omega (arith, e, f, c.begin.ensures.kept.all, c.push_rising.ensures.kept.all, c.requires.room)

pub returns : goal.returns
returns c = remap-ended _ _ _ (opened-remap c.begin.ensures) c.push_rising.ensures c.push_rising-2.ensures c.end.ensures
