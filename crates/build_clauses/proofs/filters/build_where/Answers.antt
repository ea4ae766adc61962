-- `filters::build_where`: nothing, or a filter.
use Rattle.build_clauses.specs.Filters.{clause-room, where-missing, where-stands}
use native.Mathlib.Omega.{arith}
use Rattle.build_clauses.proofs.filters.build_where.Goals as goal

pub build_filter-requires : goal.build_filter-requires
build_filter-requires c = record { room = clause-room _ _ _ _ c.in-Some.is c.requires.room; follows = c.requires.follows }

pub returns-in_default : goal.returns-in_default
returns-in_default c = where-missing c.in_default.is (omega (arith, c.requires.follows.room))

pub returns : goal.returns
returns c = where-stands _ c.in-Some.is c.build_filter.ensures
