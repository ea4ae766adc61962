-- `is_once`: the sections of one entry at most.
use Rattle.entries.specs.Entries.{once-one}
use Rattle.sections.proofs.is_once.Goals as goal

pub returns : goal.returns
returns c = rw c.room_of.ensures.1 (once-one _)
