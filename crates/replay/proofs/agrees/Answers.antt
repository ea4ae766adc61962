-- `agrees`: the window holds the rules' listing, and a full window has more bytes than are expected.
use Rattle.std.proofs.Common.{refl}
use Rattle.listing.specs.Listed.{counted}
use Rattle.replay.specs.Cases.{full-differs, bytes_same}
use Rattle.replay.proofs.agrees.Goals as goal

pub slice_bounds-out-end : goal.slice_bounds-out-end
slice_bounds-out-end c = (counted _ _ c.in-Some.ensures.listed refl).0

pub slice_bounds-equal-end : goal.slice_bounds-equal-end
slice_bounds-equal-end c = (counted _ _ c.in-Some.ensures.listed refl).1

pub returns-in-Some : goal.returns-in-Some
returns-in-Some c = bytes_same _ _ _ c.in-Some.ensures.listed _ _ refl c.equal.ensures

pub returns-in-None : goal.returns-in-None
returns-in-None c = full-differs _ _ _ c.in-None.ensures.listed refl c.requires
