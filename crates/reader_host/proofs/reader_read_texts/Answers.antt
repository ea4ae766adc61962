-- `reader_read_texts`: the numbers of what `read_texts` says, and the slices as it leaves them.
use mathlib.Core.Path.{ap, ◌∙◌}
use Rattle.reader_host.specs.Numbers.{answered, answered-told}
use Rattle.reader_host.proofs.reader_read_texts.Goals as goal

pub returns : goal.returns
returns c = record { value = c.answered.ensures ∙ ap answered c.read_texts.ensures.is ∙ answered-told _; parts_after = c.read_texts.ensures.stands }
