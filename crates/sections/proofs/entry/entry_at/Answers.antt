-- `entry::entry_at`: the numbers from where the entry starts.
use mathlib.Core.Path.{ap, ◌∙◌}
use Rattle.sections.specs.Access.{numbers_from, numbers_at}
use Rattle.sections.proofs.entry.entry_at.Goals as goal

pub returns : goal.returns
unfolding numbers_at
returns c = c.numbers_from.ensures ∙ ap (numbers_from c.args.parts.now) c.entry_start.ensures.0
