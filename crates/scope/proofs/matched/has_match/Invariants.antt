-- `matched::has_match`: what was found so far, or is found from here on, is what is found in all.
use mathlib.Core.Path.{◌≡◌}
use mathlib.Core.Bool.{◌||◌}
use lib.ListN.{drop}
use Rattle.scope.specs.UsedMatches.{some_match}
use Rattle.scope.proofs.matched.has_match.Given as goal

abbrev pub invariant-loop-m : goal.invariant-loop-m
invariant-loop-m l = (l.found || some_match (drop l.m-index l.matches)) ≡ some_match l.matches
