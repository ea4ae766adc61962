-- `entry::new_column`: the numbers from where the column starts.
use mathlib.Core.Path.{ap, ◌∙◌}
use Rattle.sections.specs.Access.{column_from}
use Rattle.sections.proofs.entry.new_column.Goals as goal

pub returns : goal.returns
returns c = c.column_from.ensures ∙ ap (column_from c.args.parts.now) c.entry_start.ensures.0
