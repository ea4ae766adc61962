-- `walk::is_aggregate_call`: whether one is called.
use mathlib.Core.Path.{ap, ◌∙◌}
use Rattle.rules.specs.Lists.{is_some}
use Rattle.ast.specs.Aggregates.{named-some}
use Rattle.ast.specs.Called.{called_is}
use Rattle.ast.specs.Walk.{call-root}
use Rattle.ast.proofs.walk.is_aggregate_call.Goals as goal

pub returns : goal.returns
returns c = c.is_some.ensures ∙ named-some _ ∙ ap is_some c.called.ensures ∙ called_is _ ∙ call-root _ _ _ _
