-- `position::position_of`, by what was found.
use borrow.Author.Rules.{rules}
use Rattle.build_expression.specs.Positions.{position-at}
use Rattle.build_expression.proofs.position.position_of.Goals as goal

pub returns : goal.returns
returns c = position-at _ _ _ c.map_err.ensures.cases (λ k w h. search rules)
