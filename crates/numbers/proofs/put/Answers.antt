-- `put`: what is copied is what is stored.
use native.Mathlib.Omega.{arith}
use Rattle.numbers.specs.Stores.{part-stored}
use Rattle.numbers.proofs.put.Goals as goal

pub returns : goal.returns
returns g c = part-stored _ _ _ _ _ g.row.N c.copy_from_slice.ensures.after c.well_formed.1.1.0.1.0.1 (omega arith) c.requires
