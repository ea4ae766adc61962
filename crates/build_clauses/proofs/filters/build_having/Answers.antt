-- `filters::build_having`: nothing, a refusal where nothing is matched, or a filter.
use Rattle.build_clauses.specs.Filters.{clause-room, having-missing, having-unmatched, having-matched}
use native.Mathlib.Omega.{arith}
use Rattle.build_clauses.proofs.filters.build_having.Goals as goal

pub returns-then-not-is_matched : goal.returns-then-not-is_matched
returns-then-not-is_matched c = rw c.at.ensures (having-unmatched _ c.in-Some.is c.is_matched.ensures c.if-not-is_matched.true)

pub build_filter-requires : goal.build_filter-requires
build_filter-requires c = record { room = clause-room _ _ _ _ c.in-Some.is c.requires.room; follows = c.requires.follows }

pub returns-in_default : goal.returns-in_default
returns-in_default c = having-missing c.in_default.is (omega (arith, c.requires.follows.room))

pub returns : goal.returns
returns c = having-matched _ c.in-Some.is c.is_matched.ensures c.if-not-is_matched.false c.build_filter.ensures
