-- `hidden::hidden_target`: a shown column keeps its position, a hidden one is dropped.
use native.Mathlib.Omega.{arith}
use mathlib.Core.Path.{ap, ◌∙◌}
use Rattle.rules.specs.Area.{option_number}
use Rattle.numbers.specs.Options.{option_of}
use Rattle.scope.specs.Targets.{target-at, target-few}
use Rattle.scope.proofs.hidden.hidden_target.Goals as goal

pub number_of-requires : goal.number_of-requires
number_of-requires c = rw c.then_some-target.ensures (target-few _ _ (omega (arith, c.ranges.width.fits)))

pub returns : goal.returns
returns c = target-at _ _ _ (c.number_of.ensures ∙ ap (λ o. option_number (option_of o)) c.then_some-target.ensures)
