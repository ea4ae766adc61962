-- `build_from` meets its contract: the row falls with each call.
use Rattle.build_from.proofs.+build_from.Given as goal

abbrev pub decreases-build_from : goal.decreases-build_from
decreases-build_from l = l.r
