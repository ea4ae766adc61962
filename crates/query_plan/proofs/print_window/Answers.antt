-- `print_window`: as many bytes as are listed, or the whole window.
use Rattle.std.proofs.Common.{refl, subst}
use Rattle.std.specs.Io.KnownBytes.{Appends}
use Rattle.listing.specs.Listed.{counted, ended, filled}
use Rattle.query_plan.proofs.print_window.Goals as goal

pub slice_bounds-out-end : goal.slice_bounds-out-end
slice_bounds-out-end g c = (counted _ _ c.in-Some.ensures refl).0

pub slice_bounds-write_all-end : goal.slice_bounds-write_all-end
slice_bounds-write_all-end g c = (counted _ _ c.in-Some.ensures refl).1

pub returns-in_ok-write_all-in-None : goal.returns-in_ok-write_all-in-None
returns-in_ok-write_all-in-None g c = subst (Appends _ _) (filled _ _ c.in-None.ensures refl).1 c.in_ok-write_all-in-None.ensures.bytes

pub returns-in_ok-write_all-in-Some : goal.returns-in_ok-write_all-in-Some
returns-in_ok-write_all-in-Some g c = subst (Appends _ _) (ended _ _ c.in-Some.ensures refl) c.in_ok-write_all-in-Some.ensures.bytes
