-- `entry::count`: the number that a section starts with.
use mathlib.Core.Path.{sym, ap, ◌∙◌}
use lib.ListN.{get_or}
use Rattle.sections.specs.Access.{section-count}
use Rattle.sections.proofs.entry.count.Goals as goal

pub returns : goal.returns
returns c b q cells = let parts = c.args.parts.now in
    c.number.ensures ∙ ap (λ i. get_or parts i 0) c.room_of.ensures.0
    ∙ sym (section-count b q cells parts _)
