-- `View::is_matched`: a match among them.
use mathlib.Core.Path.{◌∙◌}
use Rattle.scope.specs.UsedMatches.{some_of}
use Rattle.scope.proofs.view.View.is_matched.Goals as goal

pub returns : goal.returns
returns c = λ e. c.has_match.ensures ∙ some_of e 0 _
