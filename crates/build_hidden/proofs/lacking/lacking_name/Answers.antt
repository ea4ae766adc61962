-- `lacking::lacking_name`: the child is asked where the parent has the name.
use mathlib.Core.Path.{sym, ◌∙◌}
use Rattle.build_hidden.specs.Lacking.{name-nothing, name-lacking}
use Rattle.build_hidden.proofs.lacking.lacking_name.Goals as goal

pub returns-in_err-i : goal.returns-in_err-i
returns-in_err-i c = rw c.from_residual.ensures (name-nothing c.lookup.ensures (sym c.ok.ensures.value ∙ c.in_err-i.was))

pub returns : goal.returns
returns c = rw c.then_some.ensures (name-lacking c.lookup.ensures _ c.lookup-2.ensures (sym c.ok.ensures.value ∙ c.in_ok-i.was) c.is_err.ensures.negation)
