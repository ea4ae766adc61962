-- `lookup::not_found`: whether something is matched.
use mathlib.Core.Path.{sym, ◌∙◌}
use Rattle.scope.specs.Search.{missing-column, missing-aggregated}
use Rattle.scope.proofs.lookup.not_found.Goals as goal

pub returns-then-has_match : goal.returns-then-has_match
returns-then-has_match c = missing-aggregated (sym c.has_match.ensures ∙ c.if-has_match.true)

pub returns : goal.returns
returns c = missing-column (sym c.has_match.ensures ∙ c.if-has_match.false)
