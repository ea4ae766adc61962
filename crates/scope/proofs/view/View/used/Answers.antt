-- `View::used`: all, or none where there is no match.
use mathlib.Core.Path.{sym, ◌∙◌}
use mathlib.Core.Path.{refl}
use Rattle.scope.specs.UsedMatches.{used_all, used-none}
use Rattle.scope.proofs.view.View.used.Goals as goal

pub returns-then-has_match : goal.returns-then-has_match
returns-then-has_match c = record {
  labels = refl;
  matches = used_all _ (sym c.has_match.ensures ∙ c.if-has_match.true);
  tables = refl;
}

pub returns : goal.returns
returns c = record {
  labels = refl;
  matches = used-none _ (sym c.has_match.ensures ∙ c.if-has_match.false);
  tables = refl;
}
